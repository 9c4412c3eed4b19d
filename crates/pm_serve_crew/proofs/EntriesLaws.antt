-- After the join the book has of each child what its run noted.
use Rattle.std.{proofs.{Common.{◌≡◌, ◌≢◌, inl, inr, ℕ, ◌+◌, ◌<◌, Bool, true, false, List, [], ◌∷◌, ◌++◌, None, Some, get_or, refl, sym, ap, subst, ◌∙◌, arith, append-nil}, lemmas.{List.Elements.filter-append, Option.slice_get-get_or}}, specs.{Prelude.{cond, map, slice_get, ◌&&◌, ◌==◌}, List.AllByRecursion}}
use Rattle.pm_board_acts.specs.{pm_board.{pm_board_words.declared.views.RosterView.RosterView, Places.slot_at}, pm_supervisor_chain.Chain.{AreDistinct, IsPidOf}, pm_worker.{declared.mail.MailTold.MailTold, Runs.{IsRun, Run, noted_by}}}
use Rattle.pm_session_answers.specs.{pm_query.declared.book.BookEntry.{BookEntry, TheVariants.{Opened, Gone}}, Own.{NoneBy, entries_by, is_by}}
use Rattle.pm_store_shared.specs.{declared.views.Noted.Noted, Log.{AllBelow, Line, book_of, entries_of, is_own, noted as noted_at, placed}}
use Rattle.pm_serve_crew.{specs.{Left.{AreLeft, IsWorked, Manner}, Pids.{AreEntriesOf, AreUsedOnce, pids_at}, Uses.{AllBy, UsesStore}}, proofs.{PidsLaws.differs, UsesLaws.{own_entries, uses}}}

-- ---- filters

filter_none : (pid : ℕ) (entries : List BookEntry) → NoneBy pid entries → entries_by pid entries ≡ []
filter_none pid [] none = refl
filter_none pid (entry ∷ entries) none = ap (λ (b : Bool). cond b (entry ∷ entries_by pid entries) (entries_by pid entries)) none.0 ∙ filter_none pid entries none.1

filter_all : (pid : ℕ) (entries : List BookEntry) → AllBy pid entries → entries_by pid entries ≡ entries
filter_all pid [] all = refl
filter_all pid (entry ∷ entries) all =
    ap (λ (b : Bool). cond b (entry ∷ entries_by pid entries) (entries_by pid entries)) all.0 ∙ ap (λ (es : List BookEntry). entry ∷ es) (filter_all pid entries all.1)

-- an entry of one child is none of another
apart_at : (pid other : ℕ) (entry : BookEntry) → pid ≢ other → is_by other entry ≡ true → is_by pid entry ≡ false
apart_at pid other (Opened generation) differ own = refl
apart_at pid other (Gone who) differ own = refl
apart_at pid other _ differ own = grind (arith, differ, own)

apart : (pid other : ℕ) (entries : List BookEntry) → pid ≢ other → AllBy other entries → NoneBy pid entries
apart pid other [] differ all = tt
apart pid other (entry ∷ entries) differ all = (apart_at pid other entry differ all.0, apart pid other entries differ all.1)

-- ---- the runs of one slot

abbrev run_pids : List Run → List ℕ
run_pids runs = map (λ run. run.child.offer.pid) runs

abbrev AllOwn : List Run → Type 0
AllOwn runs = AllByRecursion (λ run. AllBy run.child.offer.pid run.noted) runs

none_of_runs : (pid : ℕ) (runs : List Run) → AllOwn runs → AllByRecursion (λ other. pid ≢ other) (run_pids runs) → NoneBy pid (noted_by runs)
none_of_runs pid [] own differ = tt
none_of_runs pid (run ∷ runs) own differ = join pid run.noted (noted_by runs) (apart pid run.child.offer.pid run.noted differ.0 own.0) (none_of_runs pid runs own.1 differ.1)
  where
    join : (p : ℕ) (first second : List BookEntry) → NoneBy p first → NoneBy p second → NoneBy p (first ++ second)
    join p [] second one two = two
    join p (entry ∷ first) second one two = (one.0, join p first second one.1 two)

-- the entries of a run among those of its slot's
abbrev HasIts : List BookEntry → Run → Type 0
HasIts entries run = entries_by run.child.offer.pid entries ≡ run.noted

with_front : (front entries : List BookEntry) (runs : List Run) → AllByRecursion (λ run. NoneBy run.child.offer.pid front) runs → AllByRecursion (HasIts entries) runs
    → AllByRecursion (HasIts (front ++ entries)) runs
with_front front entries [] none has = tt
with_front front entries (run ∷ runs) none has = (
  filter-append (is_by run.child.offer.pid) front entries ∙ ap (λ (es : List BookEntry). es ++ entries_by run.child.offer.pid entries) (filter_none run.child.offer.pid front none.0) ∙ has.0,
  with_front front entries runs none.1 has.1,
)

none_in_first : (first : Run) (runs : List Run) → AllBy first.child.offer.pid first.noted → AllByRecursion (λ other. first.child.offer.pid ≢ other) (run_pids runs)
    → AllByRecursion (λ run. NoneBy run.child.offer.pid first.noted) runs
none_in_first first [] own differ = tt
none_in_first first (run ∷ runs) own differ =
    (apart run.child.offer.pid first.child.offer.pid first.noted (λ is. differ.0 (sym is)) own, none_in_first first runs own differ.1)

of_slot : (runs : List Run) → AllOwn runs → AreDistinct (run_pids runs) → AllByRecursion (HasIts (noted_by runs)) runs
of_slot [] own once = tt
of_slot (run ∷ runs) own once = (
  filter-append (is_by run.child.offer.pid) run.noted (noted_by runs)
      ∙ ap (λ (es : List BookEntry). es ++ entries_by run.child.offer.pid (noted_by runs)) (filter_all run.child.offer.pid run.noted own.0)
      ∙ ap (λ (es : List BookEntry). run.noted ++ es) (filter_none run.child.offer.pid (noted_by runs) (none_of_runs run.child.offer.pid runs own.1 once.0))
      ∙ append-nil run.noted,
  with_front run.noted (noted_by runs) runs (none_in_first run runs own.0 once.0) (of_slot runs own.1 once.1),
)

-- ---- the whole log

-- what others than the token k noted is of other children
abbrev OthersAre : ℕ → ℕ → List Line → Type 0
OthersAre k pid log = AllByRecursion (λ (l : Line). is_own l.entry ≡ true → l.by ≢ k → is_by pid l.entry ≡ false) log

not_own : (pid : ℕ) (entry : BookEntry) → is_own entry ≡ false → is_by pid entry ≡ false
not_own pid (Opened generation) is = refl
not_own pid (Gone who) is = refl
not_own pid _ is = absurd cc

of_log : (k pid n : ℕ) (log : List Line) → OthersAre k pid log → entries_by pid (book_of log) ≡ entries_by pid (entries_of (placed k n log))
of_log k pid n [] others = refl
of_log k pid n (l ∷ log) others = by_line (of_log k pid (n + 1) log others.1) (is_own l.entry) refl (l.by == k) refl
  where
    passes : is_by pid l.entry ≡ false → entries_by pid (l.entry ∷ book_of log) ≡ entries_by pid (book_of log)
    passes is = ap (λ (b : Bool). cond b (l.entry ∷ entries_by pid (book_of log)) (entries_by pid (book_of log))) is

    skips : (test : Bool) → (is_own l.entry && (l.by == k)) ≡ test → test ≡ false → placed k n (l ∷ log) ≡ placed k (n + 1) log
    skips test is off = ap (λ (b : Bool). cond b (noted_at n l.entry ∷ placed k (n + 1) log) (placed k (n + 1) log)) (is ∙ off)

    by_line : entries_by pid (book_of log) ≡ entries_by pid (entries_of (placed k (n + 1) log)) → (own : Bool) → is_own l.entry ≡ own → (its : Bool) → (l.by == k) ≡ its
        → entries_by pid (book_of (l ∷ log)) ≡ entries_by pid (entries_of (placed k n (l ∷ log)))
    by_line rest true own true its =
        let takes : placed k n (l ∷ log) ≡ noted_at n l.entry ∷ placed k (n + 1) log =
        ap (λ (b : Bool). cond b (noted_at n l.entry ∷ placed k (n + 1) log) (placed k (n + 1) log)) (ap (λ (b : Bool). b && (l.by == k)) own ∙ its) in
        ap (λ (es : List BookEntry). cond (is_by pid l.entry) (l.entry ∷ es) es) rest
        ∙ sym (ap (λ (xs : List Noted). entries_by pid (entries_of xs)) takes)
    by_line rest true own false its =
        passes (others.0 own (λ same. absurd (grind (arith, same, its))))
        ∙ rest
        ∙ sym (ap (λ (xs : List Noted). entries_by pid (entries_of xs)) (skips false (ap (λ (b : Bool). b && (l.by == k)) own ∙ its) refl))
    by_line rest false own by-k its =
        passes (not_own pid l.entry own)
        ∙ rest
        ∙ sym (ap (λ (xs : List Noted). entries_by pid (entries_of xs)) (skips false (ap (λ (b : Bool). b && (l.by == k)) own) refl))

-- and what each other token noted is of its slot's children
others_are : (k pid n count : ℕ) (log : List Line) → AllBelow count log
    → ((j : ℕ) → j < count → j ≢ k → NoneBy pid (entries_of (placed j n log))) → OthersAre k pid log
others_are k pid n count [] below none = tt
others_are k pid n count (l ∷ log) below none = (
  (λ own other. (subst (NoneBy pid) (ap entries_of (takes l.by own refl)) (none l.by (below.0 own) other)).0),
  others_are k pid (n + 1) count log below.1 (λ j less other. rest j (is_own l.entry && (l.by == j)) refl (none j less other)),
)
  where
    takes : (j : ℕ) → is_own l.entry ≡ true → l.by ≡ j → placed j n (l ∷ log) ≡ noted_at n l.entry ∷ placed j (n + 1) log
    takes j own same =
        let its : (l.by == j) ≡ true = grind (arith, same) in
        ap (λ (b : Bool). cond b (noted_at n l.entry ∷ placed j (n + 1) log) (placed j (n + 1) log)) (ap (λ (b : Bool). b && (l.by == j)) own ∙ its)

    rest : (j : ℕ) (test : Bool) → (is_own l.entry && (l.by == j)) ≡ test → NoneBy pid (entries_of (placed j n (l ∷ log))) → NoneBy pid (entries_of (placed j (n + 1) log))
    rest j true is all =
        (subst (λ (b : Bool). NoneBy pid (entries_of (cond b (noted_at n l.entry ∷ placed j (n + 1) log) (placed j (n + 1) log)))) is all).1
    rest j false is all =
        subst (λ (b : Bool). NoneBy pid (entries_of (cond b (noted_at n l.entry ∷ placed j (n + 1) log) (placed j (n + 1) log)))) is all

-- ---- the join

same_pids : (runs : List Run) (past : List _) → past ≡ map (λ run. run.child) runs → map (λ child. child.offer.pid) past ≡ run_pids runs
same_pids runs past is = ap (λ p. map (λ child. child.offer.pid) p) is ∙ twice runs
  where
    twice : (rs : List Run) → map (λ child. child.offer.pid) (map (λ run. run.child) rs) ≡ run_pids rs
    twice [] = refl
    twice (run ∷ rs) = ap (λ (ps : List ℕ). run.child.offer.pid ∷ ps) (twice rs)

module _ (manner : Manner) (count : ℕ) (d : RosterView MailTold) (own : List Noted) (book : List BookEntry) (left : AreLeft manner count d own book) (once : AreUsedOnce d) where
  pub its_list : (k : ℕ) → k < count → (list : List Noted) × (slice_get left.lists k ≡ Some list)
  its_list k less = (get_or left.lists k [], slice_get-get_or left.lists k [] (omega (arith, less, left.all)))

  pub worked : (k : ℕ) (less : k < count) → IsWorked manner d k (left.runs k) (its_list k less).0
  worked k less = left.each k (its_list k less).0 (its_list k less).1

  all_use : (runs : List Run) → AllByRecursion (IsRun None manner.seed manner.limit manner.gives) runs → AllByRecursion (λ run. UsesStore run.child run.noted) runs
  all_use [] each = tt
  all_use (run ∷ runs) each = (uses None manner.seed manner.limit manner.gives run each.0, all_use runs each.1)

  -- each run used the store once, or not at all
  pub runs_use : (k : ℕ) → k < count → AllByRecursion (λ run. UsesStore run.child run.noted) (left.runs k)
  runs_use k less = all_use (left.runs k) (worked k less).each

  all_own : (runs : List Run) → AllByRecursion (λ run. UsesStore run.child run.noted) runs → AllOwn runs
  all_own [] each = tt
  all_own (run ∷ runs) each = (own_entries run.child run.noted each.0, all_own runs each.1)

  pub entries_at : (k : ℕ) (less : k < count) → entries_of (placed k 0 left.shuffle.log) ≡ noted_by (left.runs k)
  entries_at k less = ap entries_of (sym (left.shuffle.each_list k (its_list k less).0 (its_list k less).1)) ∙ (worked k less).entries

  pids_are : (k : ℕ) (less : k < count) → pids_at d k ≡ run_pids (left.runs k)
  pids_are k less = same_pids (left.runs k) (slot_at d k).past (worked k less).children

  others_none : (k pid : ℕ) → k < count → IsPidOf pid (pids_at d k) → OthersAre k pid left.shuffle.log
  others_none k pid less its =
      others_are k pid 0 count left.shuffle.log left.shuffle.below (λ j below other.
      subst (NoneBy pid) (sym (entries_at j below))
      (none_of_runs pid (left.runs j) (all_own (left.runs j) (runs_use j below))
      (differs pid (run_pids (left.runs j)) (λ there. once.across j k pid other (subst (IsPidOf pid) (sym (pids_are j below)) there) its))))

  -- the entries of a child in the book are those that its run noted
  one_by_one : (k : ℕ) (less : k < count) (runs : List Run) → AllByRecursion (λ run. IsPidOf run.child.offer.pid (pids_at d k)) runs
      → AllByRecursion (HasIts (noted_by (left.runs k))) runs → AreEntriesOf book runs
  one_by_one k less [] there has = tt
  one_by_one k less (run ∷ runs) there has = (
    (let pid : ℕ = run.child.offer.pid in
        ap (entries_by pid) (sym left.shuffle.book_is)
        ∙ of_log k pid 0 left.shuffle.log (others_none k pid less there.0)
        ∙ ap (entries_by pid) (entries_at k less)
        ∙ has.0),
    one_by_one k less runs there.1 has.1,
  )

  all_there : (runs : List Run) → AllByRecursion (λ run. IsPidOf run.child.offer.pid (run_pids runs)) runs
  all_there [] = tt
  all_there (run ∷ runs) = (inl refl, more runs (all_there runs))
    where
      more : (rs : List Run) → AllByRecursion (λ r. IsPidOf r.child.offer.pid (run_pids runs)) rs → AllByRecursion (λ r. IsPidOf r.child.offer.pid (run.child.offer.pid ∷ run_pids runs)) rs
      more [] are = tt
      more (r ∷ rs) are = (inr are.0, more rs are.1)

  pub entries_of_runs : (k : ℕ) → k < count → AreEntriesOf book (left.runs k)
  entries_of_runs k less =
      one_by_one k less (left.runs k)
      (subst (λ (pids : List ℕ). AllByRecursion (λ run. IsPidOf run.child.offer.pid pids) (left.runs k)) (sym (pids_are k less)) (all_there (left.runs k)))
      (of_slot (left.runs k) (all_own (left.runs k) (runs_use k less)) (subst AreDistinct (pids_are k less) (once.within k)))
