-- Which entries of a book are a child's.
use Rattle.std.specs.{Prelude.{◌≡◌, ℕ, nat_eq, Bool, false, List, [], ◌∷◌, ◌++◌}, List.{AllByRecursion, filter}}
use Rattle.pm_query.specs.declared.book.BookEntry.{BookEntry, TheVariants.{Opened, Attached, Redone, Answered, Released, Detached, Gone, CheckpointEnded, Broke, LogFull}}

-- it is noted by a child of this pid
abbrev pub is_by : ℕ → BookEntry → Bool
is_by who (Opened generation) = false
is_by who (Attached pid generation) = nat_eq who pid
is_by who (Redone pid generation kept) = nat_eq who pid
is_by who (Answered pid script reply commit front tick) = nat_eq who pid
is_by who (Released pid front tick) = nat_eq who pid
is_by who (Detached pid) = nat_eq who pid
is_by who (Gone pid) = false
is_by who (CheckpointEnded pid done clean) = nat_eq who pid
is_by who (Broke pid since faults) = nat_eq who pid
is_by who (LogFull pid script need room) = nat_eq who pid

-- the entries that a child of this pid noted, in order
abbrev pub entries_by : ℕ → List BookEntry → List BookEntry
entries_by who book = filter (is_by who) book

abbrev pub NoneBy : ℕ → List BookEntry → Type 0
NoneBy who entries = AllByRecursion (λ entry. is_by who entry ≡ false) entries

-- they stand in the book in this order, and none of that child before them or between them
abbrev pub StandIn : ℕ → List BookEntry → List BookEntry → Type 0
StandIn who [] book = Unit {0}
StandIn who (entry ∷ noted) book =
    (others : List BookEntry) × (behind : List BookEntry) × (book ≡ others ++ entry ∷ behind) × NoneBy who others × StandIn who noted behind
