-- What a stop leaves holds what was acknowledged, and each commit as a whole.
use Rattle.std.{proofs.{Common.{◌≡◌, ◌⊎◌, inl, inr, ℕ, zero, suc, ◌+◌, ◌-◌, ◌≤◌, ◌<◌, Bool, true, false, cond, ◌||◌, List, [], ◌∷◌, ◌++◌, take, length, Option, None, Some, fold, refl, sym, ap, subst, ◌∙◌, arith, append_assoc, append-nil}, Math.{Logic.∥∥₁_map, Seq.length-take-le}, lemmas.List.Elements.recursion_from_All}, specs.{Prelude.{IfSome, nat_le}, List.{AllByRecursion, list_any}}}
use Rattle.pm_server.specs.{pm_disk.Files.Files, pm_rows.{Fold.folded, Standing.{Standing, after}, declared.commit.Change.Change}, pm_record.Pair.Means, Views.DiskView, Story.{HoldsHistory, IsNoAnswer, KeepsMeaning}}
use Rattle.pm_session_answers.{specs.pm_query.{declared.book.BookEntry.{BookEntry, TheVariants.{Opened, Redone, Attached, Answered, Released, Detached, Gone, CheckpointEnded, Broke, LogFull}}, AtTick.{history_at, is_by, up_to}, Book.{Base, Course, course_after, history_after, history_of, standing_of}, BookLaws.AckedNeverFalls, Durable.{HoldsAcknowledged, IsDurable, IsWithin}, History.{History, beginning, number}}, proofs.HistoryLaws.base_stays}
use Rattle.pm_promises.specs.{Stops.{AcknowledgedStays, AreSomeOf, IsAsAtFirst, WholeOrNot, commit_by, commits_in}, Promises.IsBaseOf}

-- ---- before the first answer

by_true : (a b : ℕ) → nat_le a b ≡ true → a ≤ b
by_true a b le = grind arith

by_false : (a b : ℕ) → nat_le a b ≡ false → b < a
by_false a b le = grind arith

late : (t tick start : ℕ) → t < start → start ≤ tick → nat_le tick t ≡ false
late t tick start before after = grind arith

not_yet : (t start now : ℕ) (entry : BookEntry) → t < start → IsWithin start now entry → is_by t entry ≡ false
not_yet t start now (Answered pid script reply commit front tick) le within = late t tick start le within.0
not_yet t start now (Released pid front tick) le within = late t tick start le within.0
not_yet t start now (Opened generation) le within = refl
not_yet t start now (Redone pid generation kept) le within = refl
not_yet t start now (Attached pid generation) le within = refl
not_yet t start now (Detached pid) le within = refl
not_yet t start now (Gone pid) le within = refl
not_yet t start now (CheckpointEnded pid done clean) le within = refl
not_yet t start now (Broke pid since faults) le within = refl
not_yet t start now (LogFull pid script need room) le within = refl

never_by : (t : ℕ) (entry : BookEntry) → IsNoAnswer entry → is_by t entry ≡ false
never_by t (Answered pid script reply commit front tick) none = absurd none
never_by t (Released pid front tick) none = absurd none
never_by t (Opened generation) none = refl
never_by t (Redone pid generation kept) none = refl
never_by t (Attached pid generation) none = refl
never_by t (Detached pid) none = refl
never_by t (Gone pid) none = refl
never_by t (CheckpointEnded pid done clean) none = refl
never_by t (Broke pid since faults) none = refl
never_by t (LogFull pid script need room) none = refl

none_by : (P : BookEntry → Type 0) (t : ℕ) → ((entry : BookEntry) → P entry → is_by t entry ≡ false) → (book : List BookEntry)
    → AllByRecursion P book → list_any (is_by t) book ≡ false
none_by P t not [] all = refl
none_by P t not (entry ∷ book) all =
    ap (λ (b : Bool). b || list_any (is_by t) book) (not entry all.0) ∙ none_by P t not book all.1

none_up_to : (t : ℕ) (book : List BookEntry) → list_any (is_by t) book ≡ false → up_to t book ≡ []
none_up_to t [] none = refl
none_up_to t (entry ∷ book) none = ap (λ (b : Bool). cond b (entry ∷ up_to t book) []) none

-- ---- a story's stops

given : {T : Type 0} (o : Option Files) (files : Files) → o ≡ Some files → IfSome o (λ its. T) → T
given {T} o files is told = subst (λ (f : Option Files). IfSome f (λ its. T)) is told

kept_by : (base : Base) (book : List BookEntry) (before now : DiskView) → IsDurable Means base book before.ticks now.ticks before.images now.images
    → AcknowledgedStays base book before now
kept_by base book before now durable t from to image left = by_test (nat_le durable.start t) refl where
  by_test : (b : Bool) → nat_le durable.start t ≡ b → HoldsAcknowledged Means (history_at base book t) image ⊎ IsAsAtFirst book before t image
  by_test true le = inl (durable.numbers t (by_true durable.start t le) to image left)
  by_test false le = inr (record {
    unanswered = none_up_to t book
        (none_by (IsWithin durable.start now.ticks) t (λ entry. not_yet t durable.start now.ticks entry (by_false durable.start t le)) book
        (recursion_from_All (IsWithin durable.start now.ticks) book durable.entries));
    same = durable.opening t from (omega (arith, by_false durable.start t le)) image left;
  })

pub at_each : (base : Base) (book : List BookEntry) (before now : DiskView) (files : Files) → now.files ≡ Some files
    → KeepsMeaning book before now ⊎ HoldsHistory base book before now → AcknowledgedStays base book before now
at_each base book before now files told (inl keeps) t from to image left =
    inr (record {
      unanswered = none_up_to t book (none_by IsNoAnswer t (never_by t) book keeps.unanswered);
      same = given now.files files told keeps.keeps t from to image left;
    })
at_each base book before now files told (inr holds) t from to image left = kept_by base book before now (given now.files files told holds.durable) t from to image left

-- ---- whole commits

some_none : {X : Type 0} (all : List X) → AreSomeOf {X = X} [] all
some_none [] = refl
some_none (x ∷ all) = inl (some_none all)

some_push : {X : Type 0} (some all : List X) (x : X) → AreSomeOf some all → AreSomeOf (some ++ x ∷ []) (all ++ x ∷ [])
some_push some [] x is = inr ([], ap (λ l. l ++ x ∷ []) is, refl)
some_push some (y ∷ all) x (inl is) = inl (some_push some all x is)
some_push some (y ∷ all) x (inr (rest, same, is)) = inr (rest ++ x ∷ [], ap (λ l. l ++ x ∷ []) same, some_push rest all x is)

abbrev the_none : (X : Type 0) → List X
the_none X = []

take_none : {X : Type 0} (n : ℕ) → take n (the_none X) ≡ []
take_none zero = refl
take_none (suc n) = refl

some_taken : {X : Type 0} (n : ℕ) (some all : List X) → AreSomeOf some all → AreSomeOf (take n some) all
some_taken n some [] is = ap (take n) is ∙ take_none n
some_taken n some (y ∷ all) (inl is) = inl (some_taken n some all is)
some_taken zero some (y ∷ all) (inr (rest, same, is)) = inl (some_none all)
some_taken (suc n) some (y ∷ all) (inr (rest, same, is)) = inr (take n rest, ap (take (suc n)) same, some_taken n rest all is)

still : (some all : List (List Change)) → AreSomeOf some all → AreSomeOf some (all ++ [])
still some all is = subst (AreSomeOf some) (sym (append-nil all)) is

some_after : (redone : Option ℕ) (h : History) (entry : BookEntry) (all : List (List Change)) → AreSomeOf h.commits all
    → AreSomeOf (history_after redone h entry).commits (all ++ commit_by entry)
some_after redone h (Answered pid script reply [] front tick) all is = still h.commits all is
some_after redone h (Answered pid script reply (change ∷ changes) front tick) all is = some_push h.commits all (change ∷ changes) is
some_after None h (Redone pid generation count) all is = still _ all (some_taken (count - h.base.count) h.commits all is)
some_after (Some first) h (Redone pid generation count) all is = still h.commits all is
some_after redone h (Released pid front tick) all is = still h.commits all is
some_after redone h (Opened generation) all is = still h.commits all is
some_after redone h (Attached pid generation) all is = still h.commits all is
some_after redone h (Detached pid) all is = still h.commits all is
some_after redone h (Gone pid) all is = still h.commits all is
some_after redone h (CheckpointEnded pid done clean) all is = still h.commits all is
some_after redone h (Broke pid since faults) all is = still h.commits all is
some_after redone h (LogFull pid script need room) all is = still h.commits all is

some_along : (course : Course) (book : List BookEntry) (all : List (List Change)) → AreSomeOf course.history.commits all
    → AreSomeOf (fold course_after course book).history.commits (all ++ commits_in book)
some_along course [] all is = still course.history.commits all is
some_along course (entry ∷ book) all is =
    subst (AreSomeOf (fold course_after (course_after course entry) book).history.commits) (append_assoc all (commit_by entry) (commits_in book))
    (some_along (course_after course entry) book (all ++ commit_by entry) (some_after course.redone course.history entry all is))

whole_number : AckedNeverFalls → (base : Base) (book : List BookEntry) (image : Files) → HoldsAcknowledged Means (history_of base book) image
    → ∥ ((commits : List (List Change)) × AreSomeOf commits (commits_in book) × Means image (after (standing_of base) commits)) ∥₁
whole_number never base book image holds = ∥∥₁_map holds (λ h.
    let history : History = history_of base book in
    let k : ℕ = h.0 - base.count in
    let same_base : history.base ≡ standing_of base = base_stays base book in
    let long : h.0 ≡ base.count + length (take k history.commits) =
    omega (
      arith,
      h.1,
      h.2,
      never base [] book,
      ap (λ (s : Standing). s.count) same_base,
      length-take-le k history.commits (omega (arith, h.1, h.2, never base [] book, ap (λ (s : Standing). s.count) same_base)),
    ) in
    let same : number history h.0 ≡ record { rows = folded base.rows (take k history.commits); count = base.count + length (take k history.commits) } =
    ap (λ (s : Standing). record { rows = folded s.rows (take (h.0 - s.count) history.commits); count = h.0 }) same_base
    ∙ ap (λ (n : ℕ). record { rows = folded base.rows (take k history.commits); count = n }) long in (
      take k history.commits,
      some_taken k history.commits (commits_in book) (some_along (record { history = beginning (standing_of base); redone = None }) book [] refl),
      subst (Means image) same h.3,
    ))

pub whole_each : AckedNeverFalls → (base : Base) (book : List BookEntry) (before now : DiskView) → AcknowledgedStays base book before now → WholeOrNot base book before now
whole_each never base book before now stays t from to image left = by (stays t from to image left) where
  by : HoldsAcknowledged Means (history_at base book t) image ⊎ IsAsAtFirst book before t image
      → ∥ ((commits : List (List Change)) × AreSomeOf commits (commits_in (up_to t book)) × Means image (after (standing_of base) commits)) ∥₁ ⊎ IsAsAtFirst book before t image
  by (inl holds) = inl (whole_number never base (up_to t book) image holds)
  by (inr first) = inr first

-- ---- what a store begins with

pub base_is : (base : Base) (book : List BookEntry) (before now : DiskView) → KeepsMeaning book before now ⊎ HoldsHistory base book before now → IsBaseOf base book before
base_is base book before now (inl keeps) = inl keeps.unanswered
base_is base book before now (inr holds) = inr holds.base_is
