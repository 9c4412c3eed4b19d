-- What happens inside one generation after its redo.
use Rattle.std.{proofs.{Common.{◌≡◌, ℕ, ◌-◌, ◌≤◌, List, [], ◌∷◌, ◌++◌, length-append, fold, Option, None, Some, refl, sym, ap, subst, ◌∙◌, arith}, lemmas.List.{take-append-le, Elements.All-from_recursion, Sums.fold-append}}, specs.{Prelude.false, List.Any}}
use Rattle.pm_session.specs.pm_rows.declared.commit.Change.{Change}
use Rattle.pm_query.{specs.{declared.book.BookEntry.{BookEntry, TheVariants.{Opened, Redone, Attached, Answered, Released, Detached, Gone, CheckpointEnded, Broke, LogFull}}, History.{History, acknowledged, beginning, count_of, number, with_commit}, Book.{AnswersUpTo, Base, Course, course_after, history_of, kept_by_redo, present_after, standing_of}}, proofs.HistoryLaws.{number_of, redone_is}}
use Rattle.pm_session_answers.specs.Own.{NoneBy, is_by}

-- no generation opens among them
abbrev pub OpensNone : List BookEntry → Type 0
OpensNone [] = Unit {0}
OpensNone (Opened generation ∷ entries) = ⊥
OpensNone (_ ∷ entries) = OpensNone entries

push_none : (who : ℕ) (entries : List BookEntry) (entry : BookEntry) → NoneBy who entries → is_by who entry ≡ false → NoneBy who (entries ++ entry ∷ [])
push_none who [] entry none other = (other, tt)
push_none who (first ∷ entries) entry none other = (none.0, push_none who entries entry none.1 other)

-- a generation has entries of others alone, if those so far and those that follow are of others
only_others : (who : ℕ) (so_far entries : List BookEntry) → NoneBy who so_far → NoneBy who entries → NoneBy who (fold present_after so_far entries)
only_others who so_far [] before none = before
only_others who so_far (Opened generation ∷ entries) before none = only_others who [] entries tt none.1
only_others who so_far (Attached pid generation ∷ entries) before none = only_others who (so_far ++ Attached pid generation ∷ []) entries (push_none who so_far _ before none.0) none.1
only_others who so_far (Redone pid generation kept ∷ entries) before none = only_others who (so_far ++ Redone pid generation kept ∷ []) entries (push_none who so_far _ before none.0) none.1
only_others who so_far (Answered pid script reply commit front tick ∷ entries) before none =
    only_others who (so_far ++ Answered pid script reply commit front tick ∷ []) entries (push_none who so_far _ before none.0) none.1
only_others who so_far (Released pid front tick ∷ entries) before none = only_others who (so_far ++ Released pid front tick ∷ []) entries (push_none who so_far _ before none.0) none.1
only_others who so_far (Detached pid ∷ entries) before none = only_others who (so_far ++ Detached pid ∷ []) entries (push_none who so_far _ before none.0) none.1
only_others who so_far (Gone pid ∷ entries) before none = only_others who (so_far ++ Gone pid ∷ []) entries (push_none who so_far _ before none.0) none.1
only_others who so_far (CheckpointEnded pid done clean ∷ entries) before none =
    only_others who (so_far ++ CheckpointEnded pid done clean ∷ []) entries (push_none who so_far _ before none.0) none.1
only_others who so_far (Broke pid since faults ∷ entries) before none = only_others who (so_far ++ Broke pid since faults ∷ []) entries (push_none who so_far _ before none.0) none.1
only_others who so_far (LogFull pid script need room ∷ entries) before none =
    only_others who (so_far ++ LogFull pid script need room ∷ []) entries (push_none who so_far _ before none.0) none.1

-- no answer to a child is an entry of others
not_others : (who front : ℕ) (entries : List BookEntry) → Any (AnswersUpTo who front) entries → NoneBy who entries → ⊥
not_others who front entries any none =
    at_entry any.1 any.4 (subst (λ e. is_by who e ≡ false) any.3 (All-from_recursion (λ e. is_by who e ≡ false) entries none any.0 any.1 any.2))
  where
    at_entry : (entry : BookEntry) → AnswersUpTo who front entry → is_by who entry ≡ false → ⊥
    at_entry (Answered pid script reply commit upto tick) up other = grind (arith, up.0, other)
    at_entry (Opened generation) up other = absurd up
    at_entry (Redone pid generation kept) up other = absurd up
    at_entry (Attached pid generation) up other = absurd up
    at_entry (Released pid upto tick) up other = absurd up
    at_entry (Detached pid) up other = absurd up
    at_entry (Gone pid) up other = absurd up
    at_entry (CheckpointEnded pid done clean) up other = absurd up
    at_entry (Broke pid since faults) up other = absurd up
    at_entry (LogFull pid script need room) up other = absurd up

-- So no generation opens between an answer to a child and its release, where all entries between them are of others.
pub opens_none : (who front : ℕ) (so_far entries : List BookEntry) → NoneBy who entries → Any (AnswersUpTo who front) (fold present_after so_far entries) → OpensNone entries
opens_none who front so_far [] none any = tt
opens_none who front so_far (Opened generation ∷ entries) none any = not_others who front _ any (only_others who [] entries tt none.1)
opens_none who front so_far (Attached pid generation ∷ entries) none any = opens_none who front (so_far ++ Attached pid generation ∷ []) entries none.1 any
opens_none who front so_far (Redone pid generation kept ∷ entries) none any = opens_none who front (so_far ++ Redone pid generation kept ∷ []) entries none.1 any
opens_none who front so_far (Answered pid script reply commit upto tick ∷ entries) none any =
    opens_none who front (so_far ++ Answered pid script reply commit upto tick ∷ []) entries none.1 any
opens_none who front so_far (Released pid upto tick ∷ entries) none any = opens_none who front (so_far ++ Released pid upto tick ∷ []) entries none.1 any
opens_none who front so_far (Detached pid ∷ entries) none any = opens_none who front (so_far ++ Detached pid ∷ []) entries none.1 any
opens_none who front so_far (Gone pid ∷ entries) none any = opens_none who front (so_far ++ Gone pid ∷ []) entries none.1 any
opens_none who front so_far (CheckpointEnded pid done clean ∷ entries) none any = opens_none who front (so_far ++ CheckpointEnded pid done clean ∷ []) entries none.1 any
opens_none who front so_far (Broke pid since faults ∷ entries) none any = opens_none who front (so_far ++ Broke pid since faults ∷ []) entries none.1 any
opens_none who front so_far (LogFull pid script need room ∷ entries) none any = opens_none who front (so_far ++ LogFull pid script need room ∷ []) entries none.1 any

-- ---- a history that goes on keeps its numbers

pub record GoesOnFrom (before now : History) : Type 0 where
  pub count : count_of before ≤ count_of now
  pub same : (n : ℕ) → n ≤ count_of before → number now n ≡ number before n

stays : (h : History) → GoesOnFrom h h
stays h = record { count = omega arith; same = λ n le. refl }

on : (a b c : History) → GoesOnFrom a b → GoesOnFrom b c → GoesOnFrom a c
on a b c one two = record {
  count = omega (arith, one.count, two.count);
  same = λ n le. two.same n (omega (arith, le, one.count)) ∙ one.same n le;
}

with_one : (h : History) (commit : List Change) → GoesOnFrom h (with_commit h commit)
with_one h [] = stays h
with_one h (change ∷ changes) = record {
  count = omega (arith, length-append h.commits ((change ∷ changes) ∷ []));
  same = λ n le. ap (number_of h n) (take-append-le (n - h.base.count) h.commits ((change ∷ changes) ∷ []) (omega (arith, le)));
}

released : (h : History) (front : ℕ) → GoesOnFrom h (acknowledged h front)
released h front = record { count = omega arith; same = λ n le. refl }

-- after a redo of the generation
runs_on : (first : ℕ) (h : History) (entries : List BookEntry) → OpensNone entries
    → GoesOnFrom h (fold course_after (record { history = h; redone = Some first }) entries).history
runs_on first h [] none = stays h
runs_on first h (Opened generation ∷ entries) none = absurd none
runs_on first h (Attached pid generation ∷ entries) none = runs_on first h entries none
runs_on first h (Redone pid generation kept ∷ entries) none = runs_on first h entries none
runs_on first h (Answered pid script reply commit front tick ∷ entries) none =
    on h (with_commit h commit) _ (with_one h commit) (runs_on first (with_commit h commit) entries none)
runs_on first h (Released pid front tick ∷ entries) none = on h (acknowledged h front) _ (released h front) (runs_on first (acknowledged h front) entries none)
runs_on first h (Detached pid ∷ entries) none = runs_on first h entries none
runs_on first h (Gone pid ∷ entries) none = runs_on first h entries none
runs_on first h (CheckpointEnded pid done clean ∷ entries) none = runs_on first h entries none
runs_on first h (Broke pid since faults ∷ entries) none = runs_on first h entries none
runs_on first h (LogFull pid script need room ∷ entries) none = runs_on first h entries none

pub goes_on_from : (base : Base) (before entries : List BookEntry) (first : ℕ) → kept_by_redo before ≡ Some first → OpensNone entries
    → GoesOnFrom (history_of base before) (history_of base (before ++ entries))
goes_on_from base before entries first redone none =
    subst (λ (c : Course). GoesOnFrom (history_of base before) c.history) (sym (fold-append course_after (begun base) before entries))
    (subst (λ (r : Option ℕ). GoesOnFrom (history_of base before) (fold course_after (record { history = history_of base before; redone = r }) entries).history)
    (sym (redone_is (begun base) before ∙ redone)) (runs_on first (history_of base before) entries none))
  where
    begun : Base → Course
    begun b = record { history = beginning (standing_of b); redone = None }
