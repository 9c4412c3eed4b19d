-- Before the first redo none has ended in the book: it would be legal from one base alone.
use Rattle.std.{proofs.{Common.{◌≡◌, ℕ, List, [], ◌∷◌, ◌++◌, false, Option, None, refl, ◌∙◌, ap, subst, arith}, lemmas.List.{Elements.{All-head, All-tail}, Sums.fold-append}}, specs.{Prelude.All, List.AllByRecursion}}
use Rattle.std.specs.FinMap as finite
use Rattle.pm_segment.specs.{pm_query.{History.{History, beginning}, Book.{Base, Course, IsLegal, KeepsNumber, MayFollow, MayGoOn, course_after, course_of, history_of, kept_after, kept_by_redo, standing_of}, declared.book.BookEntry.{BookEntry, TheVariants.{Opened, Attached, Redone, Answered, Released, Detached, Gone, CheckpointEnded, Broke, LogFull}}}, Stands.HasNoTick, Unread.has_redo}

abbrev IsNoRedo : BookEntry → Type 0
IsNoRedo (Redone pid generation kept) = ⊥
IsNoRedo _ = Unit {0}

none_redone : (book : List BookEntry) → AllByRecursion IsNoRedo book → has_redo book ≡ false
none_redone [] none = refl
none_redone (Redone pid generation kept ∷ book) none = absurd none.0
none_redone (_ ∷ book) none = none_redone book none.1

-- a base of so many commits
abbrev pub base_at : (faults count : ℕ) → Base
base_at faults count = record { rows = finite.empty; count = count; bytes = 0; faults = faults }

abbrev fresh : Base → Course
fresh base = record { history = beginning (standing_of base); redone = None }

-- an entry without a tick that is no redo leaves the history
stays_fresh : (base : Base) (e : BookEntry) → HasNoTick e → IsNoRedo e → course_after (fresh base) e ≡ fresh base
stays_fresh base (Opened generation) none other = refl
stays_fresh base (Attached pid generation) none other = refl
stays_fresh base (Redone pid generation kept) none other = absurd other
stays_fresh base (Answered pid script reply commit front tick) none other = absurd (omega (arith, (none 1 0).0, (none 1 0).1))
stays_fresh base (Released pid front tick) none other = absurd (omega (arith, (none 1 0).0, (none 1 0).1))
stays_fresh base (Detached pid) none other = refl
stays_fresh base (Gone pid) none other = refl
stays_fresh base (CheckpointEnded pid done clean) none other = refl
stays_fresh base (Broke pid since faults) none other = refl
stays_fresh base (LogFull pid script need room) none other = refl

stays_unkept : (e : BookEntry) → IsNoRedo e → kept_after None e ≡ None
stays_unkept (Opened generation) other = refl
stays_unkept (Attached pid generation) other = refl
stays_unkept (Redone pid generation kept) other = absurd other
stays_unkept (Answered pid script reply commit front tick) other = refl
stays_unkept (Released pid front tick) other = refl
stays_unkept (Detached pid) other = refl
stays_unkept (Gone pid) other = refl
stays_unkept (CheckpointEnded pid done clean) other = refl
stays_unkept (Broke pid since faults) other = refl
stays_unkept (LogFull pid script need room) other = refl

-- what stands before an entry, from a base
record IsFresh (base : Base) (before : List BookEntry) : Type 0 where
  kept : kept_by_redo before ≡ None
  course : course_of base before ≡ fresh base

fresh_behind : (base : Base) (before : List BookEntry) (e : BookEntry) → HasNoTick e → IsNoRedo e → IsFresh base before → IsFresh base (before ++ e ∷ [])
fresh_behind base before e none other was = record {
  kept = fold-append kept_after None before (e ∷ []) ∙ ap (λ (k : Option ℕ). kept_after k e) was.kept ∙ stays_unkept e other;
  course = fold-append course_after (fresh base) before (e ∷ []) ∙ ap (λ (c : Course). course_after c e) was.course ∙ stays_fresh base e none other;
}

-- a redo keeps the number of the base
kept_number : (base : Base) (before : List BookEntry) (count : ℕ) → IsFresh base before → KeepsNumber before (kept_by_redo before) (history_of base before) count
    → KeepsNumber before None (beginning (standing_of base)) count
kept_number base before count was keeps =
    subst (λ (h : History). KeepsNumber before None h count) (ap (λ (c : Course). c.history) was.course)
    (subst (λ (k : Option ℕ). KeepsNumber before k (history_of base before) count) was.kept keeps)

no_redo : (faults : ℕ) (before : List BookEntry) (e : BookEntry) → IsFresh (base_at faults 0) before → IsFresh (base_at faults 1) before → MayFollow (base_at faults 0) before e → MayFollow (base_at faults 1) before e → IsNoRedo e
no_redo faults before (Opened generation) none one may also = tt
no_redo faults before (Attached pid generation) none one may also = tt
no_redo faults before (Redone pid generation kept) none one may also =
    let least = kept_number (base_at faults 1) before kept one also.number in
    let most = kept_number (base_at faults 0) before kept none may.number in
    omega (arith, least.0, most.1)
no_redo faults before (Answered pid script reply commit front tick) none one may also = tt
no_redo faults before (Released pid front tick) none one may also = tt
no_redo faults before (Detached pid) none one may also = tt
no_redo faults before (Gone pid) none one may also = tt
no_redo faults before (CheckpointEnded pid done clean) none one may also = tt
no_redo faults before (Broke pid since broke) none one may also = tt
no_redo faults before (LogFull pid script need room) none one may also = tt

no_redos : (faults : ℕ) (before behind : List BookEntry) → IsFresh (base_at faults 0) before → IsFresh (base_at faults 1) before → All HasNoTick behind
    → MayGoOn (base_at faults 0) before behind → MayGoOn (base_at faults 1) before behind → AllByRecursion IsNoRedo behind
no_redos faults before [] none one ticks may also = tt
no_redos faults before (e ∷ behind) none one ticks may also =
    let other = no_redo faults before e none one may.0 also.0 in
    let tick = All-head HasNoTick e behind ticks in
    (other, no_redos faults (before ++ e ∷ []) behind (fresh_behind (base_at faults 0) before e tick other none) (fresh_behind (base_at faults 1) before e tick other one) (All-tail HasNoTick e behind ticks) may.1 also.1)

pub unredone : (faults : ℕ) (book : List BookEntry) → All HasNoTick book → ((base : Base) → base.faults ≡ faults → IsLegal base book) → has_redo book ≡ false
unredone faults book ticks legal =
    none_redone book
    (no_redos faults [] book (record { kept = refl; course = refl }) (record { kept = refl; course = refl }) ticks (legal (base_at faults 0) refl).entries (legal (base_at faults 1) refl).entries)
