-- Who is gone was attached just before, or was lost.
use Rattle.std.{proofs.{Common.{◌≡◌, ◌⊎◌, inl, inr, ℕ, zero, suc, ◌≤◌, Bool, true, false, cond, List, [], ◌∷◌, ◌++◌, length, refl, sym, ap, subst, ◌∙◌, arith, eq-eqb}, lemmas.List.Sums.{fold-append, sum_by-append, sum_by-cons}}, specs.Prelude.{nat_eq, slice_index_or}}
use Rattle.pm_session_answers.specs.pm_query.{declared.book.BookEntry.{BookEntry, TheVariants.{Opened, Gone}}, Book.{IsAttached, times_after, times_attached}}
use Rattle.pm_board_acts.specs.pm_supervisor_chain.Chain.{opened_of}
use Rattle.pm_store_shared.specs.{pm_segment.{Children.{once, times_in}, Renewal.renewal}, declared.views.Noted.Noted, Log.{all_behind, entries_of}, Renewed.{AreApart, AreAttached}}
use Rattle.pm_serve_crew.specs.Renewals.{WasInside, WereInside, lost_behind}

-- ---- where more are lost later

lost_more : (pid : ℕ) (lost more : List (List ℕ)) → 1 ≤ times_in pid (slice_index_or lost 0 []) → 1 ≤ times_in pid (slice_index_or (lost ++ more) 0 [])
lost_more pid [] more is = absurd (omega (arith, is))
lost_more pid (those ∷ lost) more is = is

was_more : (entry : BookEntry) (attached : ℕ) (lost more : List (List ℕ)) → WasInside entry attached lost → WasInside entry attached (lost ++ more)
was_more (Gone pid) attached lost more (inl there) = inl there
was_more (Gone pid) attached lost more (inr is) = inr (lost_more pid lost more is)
was_more _ attached lost more was = tt

pub inside_more : (own : List Noted) (lost more : List (List ℕ)) → WereInside own lost → WereInside own (lost ++ more)
inside_more [] lost more were = tt
inside_more (x ∷ own) lost more were = (was_more x.entry x.attached lost more were.0, rest x.entry lost more (inside_more own) were.1)
  where
    rest : (entry : BookEntry) (lost more : List (List ℕ)) → ((l m : List (List ℕ)) → WereInside own l → WereInside own (l ++ m)) → WereInside own (lost_behind entry lost)
        → WereInside own (lost_behind entry (lost ++ more))
    rest (Opened generation) [] [] so were = were
    rest (Opened generation) [] (those ∷ more) so were = so [] more were
    rest (Opened generation) (those ∷ lost) more so were = so lost more were
    rest _ lost more so were = so lost more were

-- ---- a renewal behind those before it

-- as many generations were opened as there are lists
pub inside_append : (own next : List Noted) (lost those : List (List ℕ)) → length (opened_of (entries_of own)) ≡ length lost → WereInside own lost → WereInside next those
    → WereInside (own ++ next) (lost ++ those)
inside_append [] next [] those same were new = new
inside_append [] next (x ∷ lost) those same were new = (let none : 0 ≡ length (x ∷ lost) = same in absurd (omega (arith, none)))
inside_append (x ∷ own) next lost those same were new =
    (was_more x.entry x.attached lost those were.0, rest x.entry lost (λ l all so. inside_append own next l those all so new) same were.1)
  where
    rest : (entry : BookEntry) (lost : List (List ℕ)) → ((l : List (List ℕ)) → length (opened_of (entries_of own)) ≡ length l → WereInside own l → WereInside (own ++ next) (l ++ those))
        → length (opened_of (entry ∷ entries_of own)) ≡ length lost → WereInside own (lost_behind entry lost) → WereInside (own ++ next) (lost_behind entry (lost ++ those))
    rest (Opened generation) [] so same were = (let none : length (generation ∷ opened_of (entries_of own)) ≡ 0 = same in absurd (omega (arith, none)))
    rest (Opened generation) (l ∷ lost) so same were =
        (let more : length (generation ∷ opened_of (entries_of own)) ≡ length (l ∷ lost) = same in so lost (omega (arith, more)) were)
    rest _ lost so same were = so lost same were

-- the child was lost, or is at most once among these, and is attached where it is
abbrev MayBeGone : (before : List BookEntry) (pids lost : List ℕ) (pid : ℕ) → Type 0
MayBeGone before pids lost pid = (1 ≤ times_in pid lost) ⊎ ((times_in pid pids ≤ 1) × (1 ≤ times_in pid pids → IsAttached before pid))

inside_those : (before : List BookEntry) (pids lost : List ℕ) (generation : ℕ) → ((pid : ℕ) → MayBeGone before pids lost pid) → WereInside (all_behind before (renewal pids generation)) (lost ∷ [])
inside_those before [] lost generation may = (tt, tt)
inside_those before (first ∷ pids) lost generation may =
    (here (may first), inside_those (before ++ Gone first ∷ []) pids lost generation (λ pid. next pid (nat_eq pid first) refl (may pid)))
  where
    here : MayBeGone before (first ∷ pids) lost first → (1 ≤ times_attached before first) ⊎ (1 ≤ times_in first lost)
    here (inl is) = inr is
    here (inr is) =
        let one : once first first ≡ 1 = ap (λ (b : Bool). cond {A = ℕ} b 1 0) (eq-eqb first first refl) in
        inl (is.1 (omega (arith, one, sum_by-cons (once first) first pids)))

    next : (pid : ℕ) (test : Bool) → nat_eq pid first ≡ test → MayBeGone before (first ∷ pids) lost pid → MayBeGone (before ++ Gone first ∷ []) pids lost pid
    next pid test is (inl lost_) = inl lost_
    next pid true is (inr may_) =
        let one : once pid first ≡ 1 = ap (λ (b : Bool). cond {A = ℕ} b 1 0) is in
        let most = may_.0 in
        let all = sum_by-cons (once pid) first pids in
        inr (omega (arith, one, most, all), (λ some. absurd (omega (arith, one, most, all, some))))
    next pid false is (inr may_) =
        let none : once pid first ≡ 0 = ap (λ (b : Bool). cond {A = ℕ} b 1 0) is in
        let most = may_.0 in
        let all = sum_by-cons (once pid) first pids in
        let still : times_attached (before ++ Gone first ∷ []) pid ≡ times_attached before pid =
        fold-append (times_after pid) 0 before (Gone first ∷ []) ∙ ap (λ (b : Bool). cond {A = ℕ} b 0 (times_attached before pid)) is in
        inr (omega (arith, none, most, all), (λ some. subst (λ (n : ℕ). 1 ≤ n) (sym still) (may_.1 (omega (arith, none, all, some)))))

may_be : (before : List BookEntry) (lost others : List ℕ) → AreApart lost others → AreAttached before others → (pid : ℕ) → MayBeGone before (lost ++ others) lost pid
may_be before lost others apart attached pid = by (times_in pid lost) refl
  where
    by : (n : ℕ) → times_in pid lost ≡ n → MayBeGone before (lost ++ others) lost pid
    by zero none =
        let most : times_in pid others ≤ 1 = subst (λ (n : ℕ). times_in pid others ≤ cond (nat_eq 0 n) 1 0) none (apart pid) in
        let all = sum_by-append (once pid) lost others in
        inr (omega (arith, none, most, all), (λ some. attached pid (omega (arith, none, all, some))))
    by (suc n) more = inl (omega (arith, more))

pub inside_renewed : (before : List BookEntry) (lost others : List ℕ) (generation : ℕ) → AreApart lost others → AreAttached before others
    → WereInside (all_behind before (renewal (lost ++ others) generation)) (lost ∷ [])
inside_renewed before lost others generation apart attached = inside_those before (lost ++ others) lost generation (may_be before lost others apart attached)
