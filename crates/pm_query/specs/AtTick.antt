-- The history as it was at a tick of the disk.
use Rattle.std.specs.{Prelude.{ℕ, Bool, false, if◌then◌else◌, nat_le, List, [], ◌∷◌}, List.list_any}
use Rattle.pm_query.specs.{declared.book.BookEntry.{BookEntry, TheVariants.{Answered, Released}}, History.History, Book.{Base, history_of}}

-- whether the entry was made at that tick or before; only an answer and a release tell their tick
abbrev pub is_by : ℕ → BookEntry → Bool
is_by t (Answered pid script reply commit front tick) = nat_le tick t
is_by t (Released pid front tick) = nat_le tick t
is_by t _ = false

-- the entries up to the last such one
abbrev pub up_to : ℕ → List BookEntry → List BookEntry
up_to t [] = []
up_to t (entry ∷ book) = if list_any (is_by t) (entry ∷ book) then entry ∷ up_to t book else []

-- the history after them
abbrev pub history_at : Base → List BookEntry → ℕ → History
history_at base book t = history_of base (up_to t book)
