-- What a legal book tells of its last generation.
use Rattle.std.{proofs.{Common.{◌≡◌, ◌⊎◌, inl, inr, ℕ, ◌+◌, ◌-◌, ◌≤◌, Bool, true, false, ◌&&◌, cond, fold, length, Option, None, Some, List, [], ◌∷◌, ◌++◌, refl, sym, ap, subst, ◌∙◌, arith, append_assoc, append-nil}, lemmas.List.Sums.fold-append}, specs.{Prelude.{is_some, nat_eq}, List.{AllByRecursion, list_any}}}
use Rattle.pm_serve_crew.specs.{pm_facts.Lists.each_more, pm_query.{declared.book.BookEntry.{BookEntry, TheVariants.{Opened, Redone, Attached, Answered, Released, Detached, Gone, CheckpointEnded, Broke, LogFull}}, Book.{Base, IsLegal, KeepsNumber, MayFollow, MayGoOn, ends_checkpoint, ends_cleanly, fault_here, faults_here, generation_after, generation_of, history_of, is_closed, kept_after, kept_by_redo, present, present_after, times_after, times_attached}}, pm_supervisor_chain.Chain.opened_of, pm_segment.Unread.is_break}
use Rattle.pm_store_remains.{proofs.pm_query.HistoryLaws.{generation_push, present_push, redone_push, times_push, generations_rise}, specs.pm_server.Story.IsNoOpening}
use Rattle.pm_serve_clean_end.specs.Among.{IsIn, in_back, in_either, in_front, of_all, to_any}

-- ---- generations

abbrev NoOpenings : List BookEntry → Type 0
NoOpenings entries = AllByRecursion IsNoOpening entries

-- it rises at each opening
record Rises (before : ℕ) (entry : BookEntry) : Type 0 where
  up : before ≤ generation_after before entry
  plain : generation_after before entry ≡ before → IsNoOpening entry

rises : (before : ℕ) (entry : BookEntry) → Rises before entry
rises before (Opened generation) = record { up = omega arith; plain = λ is. absurd (omega (arith, is)) }
rises before entry = record { up = omega arith; plain = λ is. tt }

no_openings : (before : ℕ) (entries : List BookEntry) → fold generation_after before entries ≡ before → NoOpenings entries
no_openings before [] same = tt
no_openings before (entry ∷ entries) same =
    let one = (rises before entry).up in
    let rest = generations_rise (generation_after before entry) entries in
    let here : generation_after before entry ≡ before = omega (arith, one, rest, same) in
    ((rises before entry).plain here, no_openings (generation_after before entry) entries (same ∙ sym here))

stays : (before : ℕ) (entries : List BookEntry) → NoOpenings entries → fold generation_after before entries ≡ before
stays before [] none = refl
stays before (Opened generation ∷ entries) none = absurd none.0
stays before (entry ∷ entries) none = stays before entries none.1

opened_on : (before : ℕ) (entries : List BookEntry) → fold generation_after before entries ≡ before + length (opened_of entries)
opened_on before [] = omega arith
opened_on before (Opened generation ∷ entries) = (let rest = opened_on (before + 1) entries in omega (arith, rest))
opened_on before (entry ∷ entries) = opened_on before entries

-- the generation is the number of openings
pub generation_counted : (book : List BookEntry) → generation_of book ≡ length (opened_of book)
generation_counted book = (let all = opened_on 0 book in omega (arith, all))

generation_parts : (before entries : List BookEntry) → generation_of (before ++ entries) ≡ fold generation_after (generation_of before) entries
generation_parts before entries = fold-append generation_after 0 before entries

pub generation_up : (before entries : List BookEntry) → generation_of before ≤ generation_of (before ++ entries)
generation_up before entries = (let more = generations_rise (generation_of before) entries in let parts = generation_parts before entries in omega (arith, more, parts))

-- ---- the entries of the last one

present_all : (so_far entries : List BookEntry) → NoOpenings entries → fold present_after so_far entries ≡ so_far ++ entries
present_all so_far [] none = sym (append-nil so_far)
present_all so_far (entry ∷ entries) none =
    ap (λ (l : List BookEntry). fold present_after l entries) (one entry none.0)
    ∙ present_all (so_far ++ entry ∷ []) entries none.1
    ∙ append_assoc so_far (entry ∷ []) entries
  where
    one : (x : BookEntry) → IsNoOpening x → present_after so_far x ≡ so_far ++ x ∷ []
    one (Opened generation) plain = absurd plain
    one x plain = refl

-- an entry that was noted in the last generation is one of it
pub in_present : (before behind : List BookEntry) (entry : BookEntry) → generation_of before ≡ generation_of (before ++ entry ∷ behind) → IsIn entry (present (before ++ entry ∷ behind))
in_present before behind entry same =
    let none : NoOpenings (entry ∷ behind) = no_openings (generation_of before) (entry ∷ behind) (sym (generation_parts before (entry ∷ behind)) ∙ sym same) in
    let all : present (before ++ entry ∷ behind) ≡ present before ++ entry ∷ behind =
    fold-append present_after [] before (entry ∷ behind) ∙ present_all (present before) (entry ∷ behind) none in
    subst (IsIn entry) (sym all) (in_back entry (present before) (entry ∷ behind) (inl refl))

-- one of it stands in the book, and its generation is the last one
pub record IsPresent (entry : BookEntry) (book : List BookEntry) : Type 0 where
  pub before : List BookEntry
  pub behind : List BookEntry
  pub is : book ≡ before ++ entry ∷ behind
  pub none : NoOpenings (entry ∷ behind)

abbrev StaysOr : BookEntry → (so_far entries : List BookEntry) → Type 0
StaysOr entry so_far entries = (IsIn entry so_far × NoOpenings entries) ⊎ IsPresent entry entries

one_more : (entry x : BookEntry) (so_far : List BookEntry) → IsIn entry (present_after so_far x) → IsNoOpening x × (IsIn entry so_far ⊎ (entry ≡ x))
one_more entry (Opened generation) so_far there = absurd there
one_more entry x so_far there = (tt, which (in_either entry so_far (x ∷ []) there))
  where
    which : IsIn entry so_far ⊎ IsIn entry (x ∷ []) → IsIn entry so_far ⊎ (entry ≡ x)
    which (inl before) = inl before
    which (inr (inl same)) = inr same
    which (inr (inr never)) = absurd never

place_on : (entry : BookEntry) (so_far entries : List BookEntry) → IsIn entry (fold present_after so_far entries) → StaysOr entry so_far entries
place_on entry so_far [] there = inl (there, tt)
place_on entry so_far (x ∷ entries) there = by (place_on entry (present_after so_far x) entries there)
  where
    by : StaysOr entry (present_after so_far x) entries → StaysOr entry so_far (x ∷ entries)
    by (inr place) = inr (record { before = x ∷ place.before; behind = place.behind; is = ap (λ (l : List BookEntry). x ∷ l) place.is; none = place.none })
    by (inl stands) = (let one = one_more entry x so_far stands.0 in here one.0 stands.1 one.1)
      where
        here : IsNoOpening x → NoOpenings entries → IsIn entry so_far ⊎ (entry ≡ x) → StaysOr entry so_far (x ∷ entries)
        here plain none (inl before) = inl (before, (plain, none))
        here plain none (inr same) =
            inr (record { before = []; behind = entries; is = ap (λ (y : BookEntry). y ∷ entries) (sym same); none = (subst IsNoOpening (sym same) plain, none) })

pub present_place : (entry : BookEntry) (book : List BookEntry) → IsIn entry (present book) → IsPresent entry book
present_place entry book there = by (place_on entry [] book there)
  where
    by : StaysOr entry [] book → IsPresent entry book
    by (inr place) = place
    by (inl never) = absurd never.0

-- its generation is the last one
pub present_last : (entry : BookEntry) (book : List BookEntry) (place : IsPresent entry book) → generation_of place.before ≡ generation_of book
present_last entry book place =
    sym (ap generation_of place.is ∙ generation_parts place.before (entry ∷ place.behind) ∙ stays (generation_of place.before) (entry ∷ place.behind) place.none)

-- ---- who is attached

abbrev HasAttached : ℕ → List BookEntry → Type 0
HasAttached pid book = 1 ≤ times_attached book pid → IsIn (Attached pid (generation_of book)) book

-- an entry that is no opening, and attaches nobody more
kept_attached : (pid : ℕ) (book : List BookEntry) (entry : BookEntry) → generation_after (generation_of book) entry ≡ generation_of book
    → (1 ≤ times_after pid (times_attached book pid) entry → 1 ≤ times_attached book pid) → HasAttached pid book → HasAttached pid (book ++ entry ∷ [])
kept_attached pid book entry same less has attached =
    subst (λ (g : ℕ). IsIn (Attached pid g) (book ++ entry ∷ [])) (sym (generation_push book entry ∙ same))
    (in_front (Attached pid (generation_of book)) book (entry ∷ []) (has (less (subst (λ (n : ℕ). 1 ≤ n) (times_push book entry pid) attached))))

attach_more : (pid who generation : ℕ) (book : List BookEntry) → generation ≡ generation_of book → HasAttached pid book → HasAttached pid (book ++ Attached who generation ∷ [])
attach_more pid who generation book here has attached = by (nat_eq pid who) refl (subst (λ (n : ℕ). 1 ≤ n) (times_push book (Attached who generation) pid) attached)
  where
    by : (b : Bool) → nat_eq pid who ≡ b → 1 ≤ cond b (times_attached book pid + 1) (times_attached book pid)
        → IsIn (Attached pid (generation_of (book ++ Attached who generation ∷ []))) (book ++ Attached who generation ∷ [])
    by true is some =
        let own : pid ≡ who = grind (arith, is) in
        in_back _ book (Attached who generation ∷ [])
        (inl (ap (λ (p : ℕ). Attached p (generation_of (book ++ Attached who generation ∷ []))) own ∙ ap (Attached who) (generation_push book (Attached who generation) ∙ sym here)))
    by false is some =
        subst (λ (g : ℕ). IsIn (Attached pid g) (book ++ Attached who generation ∷ [])) (sym (generation_push book (Attached who generation)))
        (in_front (Attached pid (generation_of book)) book (Attached who generation ∷ []) (has some))

less_cond : (b : Bool) (n : ℕ) → 1 ≤ cond b (n - 1) n → 1 ≤ n
less_cond true n some = omega (arith, some)
less_cond false n some = some

none_cond : (b : Bool) (n : ℕ) → 1 ≤ cond b 0 n → 1 ≤ n
none_cond true n some = absurd (omega (arith, some))
none_cond false n some = some

attached_more : (base : Base) (pid : ℕ) (book : List BookEntry) (entry : BookEntry) → MayFollow base book entry → HasAttached pid book → HasAttached pid (book ++ entry ∷ [])
attached_more base pid book (Opened generation) may has = λ attached.
    (let none = may.empty pid in
    let some : 1 ≤ times_attached book pid = subst (λ (n : ℕ). 1 ≤ n) (times_push book (Opened generation) pid) attached in
    absurd (omega (arith, none, some)))
attached_more base pid book (Attached who generation) may has = attach_more pid who generation book may.present has
attached_more base pid book (Detached who) may has = kept_attached pid book (Detached who) refl (less_cond (nat_eq pid who) (times_attached book pid)) has
attached_more base pid book (Gone who) may has = kept_attached pid book (Gone who) refl (none_cond (nat_eq pid who) (times_attached book pid)) has
attached_more base pid book entry may has = kept_attached pid book entry refl (λ some. some) has

attached_on : (base : Base) (pid : ℕ) (before entries : List BookEntry) → MayGoOn base before entries → HasAttached pid before → HasAttached pid (before ++ entries)
attached_on base pid before [] may has = subst (HasAttached pid) (sym (append-nil before)) has
attached_on base pid before (entry ∷ entries) may has =
    subst (HasAttached pid) (append_assoc before (entry ∷ []) entries) (attached_on base pid (before ++ entry ∷ []) entries may.1 (attached_more base pid before entry may.0 has))

-- who is attached has attached in the present generation
pub has_attached : (base : Base) (pid : ℕ) (book : List BookEntry) → MayGoOn base [] book → 1 ≤ times_attached book pid → IsIn (Attached pid (generation_of book)) book
has_attached base pid book may = attached_on base pid [] book may (λ none. absurd (omega (arith, none)))

-- ---- checkpoints and redo

abbrev IsDone : BookEntry → Type 0
IsDone (CheckpointEnded pid done clean) = done ≡ true
IsDone _ = Unit {0}

-- after a redo each checkpoint of the generation was made
abbrev AreDone : List BookEntry → Type 0
AreDone book = is_some (kept_by_redo book) ≡ true → AllByRecursion IsDone (present book)

none_ended : (entries : List BookEntry) → list_any ends_checkpoint entries ≡ false → AllByRecursion IsDone entries
none_ended [] none = tt
none_ended (CheckpointEnded pid done clean ∷ entries) none = absurd cc
none_ended (_ ∷ entries) none = (tt, none_ended entries none)

-- an entry that is no opening and no redo
kept_done : (book : List BookEntry) (entry : BookEntry) → ((kept : Option ℕ) → kept_after kept entry ≡ kept) → present_after (present book) entry ≡ present book ++ entry ∷ []
    → (is_some (kept_by_redo book) ≡ true → IsDone entry) → AreDone book → AreDone (book ++ entry ∷ [])
kept_done book entry same one done has some =
    let before : is_some (kept_by_redo book) ≡ true = sym (ap (λ (k : Option ℕ). is_some k) (redone_push book entry ∙ same (kept_by_redo book))) ∙ some in
    subst (AllByRecursion IsDone) (sym (present_push book entry ∙ one)) (each_more IsDone (present book) entry (has before) (done before))

redone_more : (base : Base) (book : List BookEntry) (pid generation count : ℕ) (kept : Option ℕ) → kept_by_redo book ≡ kept → MayFollow base book (Redone pid generation count) → AreDone book
    → AllByRecursion IsDone (present book)
redone_more base book pid generation count (Some first) is may has = has (ap (λ (k : Option ℕ). is_some k) is)
redone_more base book pid generation count None is may has =
    none_ended (present book) (subst (λ (k : Option ℕ). KeepsNumber book k (history_of base book) count) is may.number).2

done_more : (base : Base) (book : List BookEntry) (entry : BookEntry) → MayFollow base book entry → AreDone book → AreDone (book ++ entry ∷ [])
done_more base book (Opened generation) may has = λ some. subst (AllByRecursion IsDone) (sym (present_push book (Opened generation))) tt
done_more base book (Redone pid generation count) may has = λ some.
    subst (AllByRecursion IsDone) (sym (present_push book (Redone pid generation count)))
    (each_more IsDone (present book) (Redone pid generation count) (redone_more base book pid generation count (kept_by_redo book) refl may has) tt)
done_more base book (CheckpointEnded pid done clean) may has =
    kept_done book (CheckpointEnded pid done clean) (λ kept. refl) refl (λ some. may.made ∙ some) has
done_more base book (Attached pid generation) may has = kept_done book (Attached pid generation) (λ kept. refl) refl (λ some. tt) has
done_more base book (Answered pid script reply commit front tick) may has = kept_done book (Answered pid script reply commit front tick) (λ kept. refl) refl (λ some. tt) has
done_more base book (Released pid front tick) may has = kept_done book (Released pid front tick) (λ kept. refl) refl (λ some. tt) has
done_more base book (Detached pid) may has = kept_done book (Detached pid) (λ kept. refl) refl (λ some. tt) has
done_more base book (Gone pid) may has = kept_done book (Gone pid) (λ kept. refl) refl (λ some. tt) has
done_more base book (Broke pid since faults) may has = kept_done book (Broke pid since faults) (λ kept. refl) refl (λ some. tt) has
done_more base book (LogFull pid script need room) may has = kept_done book (LogFull pid script need room) (λ kept. refl) refl (λ some. tt) has

done_on : (base : Base) (before entries : List BookEntry) → MayGoOn base before entries → AreDone before → AreDone (before ++ entries)
done_on base before [] may has = subst AreDone (sym (append-nil before)) has
done_on base before (entry ∷ entries) may has =
    subst AreDone (append_assoc before (entry ∷ []) entries) (done_on base (before ++ entry ∷ []) entries may.1 (done_more base before entry may.0 has))

-- ---- a redo, and no fault after it

no_openings_here : (so_far entries : List BookEntry) → NoOpenings so_far → NoOpenings (fold present_after so_far entries)
no_openings_here so_far [] none = none
no_openings_here so_far (Opened generation ∷ entries) none = no_openings_here [] entries tt
no_openings_here so_far (entry ∷ entries) none = no_openings_here (so_far ++ entry ∷ []) entries (more so_far entry none tt)
  where
    more : (xs : List BookEntry) (x : BookEntry) → NoOpenings xs → IsNoOpening x → NoOpenings (xs ++ x ∷ [])
    more [] x all plain = (plain, tt)
    more (y ∷ xs) x all plain = (all.0, more xs x all.1 plain)

-- what begins anew with each opening is what the last generation leaves of it
by_present : {X : Type 0} (step : X → BookEntry → X) (begins : X) → ((before : X) (generation : ℕ) → step before (Opened generation) ≡ begins) → (so_far entries : List BookEntry)
    → fold step (fold step begins so_far) entries ≡ fold step begins (fold present_after so_far entries)
by_present step begins anew so_far [] = refl
by_present step begins anew so_far (Opened generation ∷ entries) =
    ap (λ x. fold step x entries) (anew (fold step begins so_far) generation) ∙ by_present step begins anew [] entries
by_present step begins anew so_far (entry ∷ entries) =
    ap (λ x. fold step x entries) (sym (fold-append step begins so_far (entry ∷ []))) ∙ by_present step begins anew (so_far ++ entry ∷ []) entries

kept_anew : (before : Option ℕ) (generation : ℕ) → kept_after before (Opened generation) ≡ None
kept_anew before generation = refl

fault_anew : (before : Option (List (ℕ × ℕ))) (generation : ℕ) → fault_here before (Opened generation) ≡ None
fault_anew before generation = refl

kept_stays : (kept : Option ℕ) (entry : BookEntry) → IsNoOpening entry → is_some kept ≡ true → is_some (kept_after kept entry) ≡ true
kept_stays kept (Opened generation) plain some = absurd plain
kept_stays (Some first) (Redone pid generation count) plain some = refl
kept_stays None (Redone pid generation count) plain some = refl
kept_stays kept entry plain some = some

kept_all : (kept : Option ℕ) (entries : List BookEntry) → NoOpenings entries → is_some kept ≡ true → is_some (fold kept_after kept entries) ≡ true
kept_all kept [] none some = some
kept_all kept (entry ∷ entries) none some = kept_all (kept_after kept entry) entries none.1 (kept_stays kept entry none.0 some)

redone_some : (kept : Option ℕ) (pid generation count : ℕ) → is_some (kept_after kept (Redone pid generation count)) ≡ true
redone_some None pid generation count = refl
redone_some (Some first) pid generation count = refl

has_kept : (kept : Option ℕ) (pid generation count : ℕ) (entries : List BookEntry) → NoOpenings entries → IsIn (Redone pid generation count) entries → is_some (fold kept_after kept entries) ≡ true
has_kept kept pid generation count [] none there = absurd there
has_kept kept pid generation count (entry ∷ entries) none (inl is) =
    kept_all (kept_after kept entry) entries none.1 (subst (λ (e : BookEntry). is_some (kept_after kept e) ≡ true) is (redone_some kept pid generation count))
has_kept kept pid generation count (entry ∷ entries) none (inr there) = has_kept (kept_after kept entry) pid generation count entries none.1 there

-- no fault: none was told of yet, or a redo came
abbrev IsCalm : Option (List (ℕ × ℕ)) → Type 0
IsCalm here = (here ≡ None) ⊎ (here ≡ Some [])

calm_after : (here : Option (List (ℕ × ℕ))) (entry : BookEntry) → IsNoOpening entry → is_break entry ≡ false → here ≡ Some [] → fault_here here entry ≡ Some []
calm_after here (Opened generation) plain whole is = absurd plain
calm_after here (Broke pid since faults) plain whole is = absurd cc
calm_after here (Redone pid generation count) plain whole is = ap (λ h. fault_here h (Redone pid generation count)) is
calm_after here entry plain whole is = is

stays_calm : (here : Option (List (ℕ × ℕ))) (entries : List BookEntry) → NoOpenings entries → AllByRecursion (λ e. is_break e ≡ false) entries → here ≡ Some [] → fold fault_here here entries ≡ Some []
stays_calm here [] none whole is = is
stays_calm here (entry ∷ entries) none whole is = stays_calm (fault_here here entry) entries none.1 whole.1 (calm_after here entry none.0 whole.0 is)

before_redo : (here : Option (List (ℕ × ℕ))) (entry : BookEntry) → IsNoOpening entry → is_break entry ≡ false → IsCalm here → IsCalm (fault_here here entry)
before_redo here entry plain whole (inr is) = inr (calm_after here entry plain whole is)
before_redo here (Opened generation) plain whole (inl is) = absurd plain
before_redo here (Broke pid since faults) plain whole (inl is) = absurd cc
before_redo here (Redone pid generation count) plain whole (inl is) = inr (ap (λ h. fault_here h (Redone pid generation count)) is)
before_redo here entry plain whole (inl is) = inl is

redo_calms : (here : Option (List (ℕ × ℕ))) (pid generation count : ℕ) → IsCalm here → fault_here here (Redone pid generation count) ≡ Some []
redo_calms here pid generation count (inl is) = ap (λ h. fault_here h (Redone pid generation count)) is
redo_calms here pid generation count (inr is) = ap (λ h. fault_here h (Redone pid generation count)) is

calm_on : (here : Option (List (ℕ × ℕ))) (pid generation count : ℕ) (entries : List BookEntry) → NoOpenings entries → AllByRecursion (λ e. is_break e ≡ false) entries → IsCalm here
    → IsIn (Redone pid generation count) entries → fold fault_here here entries ≡ Some []
calm_on here pid generation count [] none whole calm there = absurd there
calm_on here pid generation count (entry ∷ entries) none whole calm (inl is) =
    stays_calm (fault_here here entry) entries none.1 whole.1 (subst (λ (e : BookEntry). fault_here here e ≡ Some []) is (redo_calms here pid generation count calm))
calm_on here pid generation count (entry ∷ entries) none whole calm (inr there) =
    calm_on (fault_here here entry) pid generation count entries none.1 whole.1 (before_redo here entry none.0 whole.0 calm) there

unbroken : (entries : List BookEntry) → ((entry : BookEntry) → IsIn entry entries → is_break entry ≡ true → ⊥) → AllByRecursion (λ e. is_break e ≡ false) entries
unbroken [] never = tt
unbroken (entry ∷ entries) never = (by (is_break entry) refl (never entry (inl refl)), unbroken entries (λ e there breaks. never e (inr there) breaks))
  where
    by : (b : Bool) → is_break entry ≡ b → (is_break entry ≡ true → ⊥) → is_break entry ≡ false
    by true is not_so = absurd (not_so is)
    by false is not_so = is

-- A book whose last generation has a redo, a last checkpoint and no fault: the log was left clean, and the disk hasn't failed since the
-- redo.
pub record IsWhole (book : List BookEntry) : Type 0 where
  pub closed : is_closed book ≡ true
  pub faults : faults_here book ≡ Some []

pub whole : (base : Base) (book : List BookEntry) (pid generation count who : ℕ) (done : Bool) → IsLegal base book → IsIn (Redone pid generation count) (present book)
    → IsIn (CheckpointEnded who done true) (present book) → ((entry : BookEntry) → IsIn entry (present book) → is_break entry ≡ true → ⊥) → IsWhole book
whole base book pid generation count who done legal redo last never =
    let none : NoOpenings (present book) = no_openings_here [] book tt in
    let kept : is_some (kept_by_redo book) ≡ true =
    ap (λ (k : Option ℕ). is_some k) (by_present kept_after None kept_anew [] book) ∙ has_kept None pid generation count (present book) none redo in
    let all : AllByRecursion IsDone (present book) = done_on base [] book legal.entries (λ some. tt) kept in
    let made : done ≡ true = of_all IsDone (CheckpointEnded who done true) (present book) all last in
    record {
      closed = to_any ends_cleanly (CheckpointEnded who done true) (present book) last (ap (λ (b : Bool). b && true) made);
      faults = by_present fault_here None fault_anew [] book ∙ calm_on None pid generation count (present book) none (unbroken (present book) never) (inl refl) redo;
    }
