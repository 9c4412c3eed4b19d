-- Laws of the history at a tick.
use Rattle.std.specs.Prelude.{◌≡◌, ℕ, false, List, [], ◌∷◌, ◌++◌, IsTrue}
use Rattle.pm_query.specs.{declared.book.BookEntry.BookEntry, Book.{Base, history_of}, AtTick.{history_at, is_by}}

-- an entry that isn't made by a tick changes nothing of the history at it
abbrev pub PastStays : Type 0
PastStays = (base : Base) (book : List BookEntry) (entry : BookEntry) (t : ℕ) → is_by t entry ≡ false
    → history_at base (book ++ entry ∷ []) t ≡ history_at base book t

-- one that is made by it brings the whole history up to it
abbrev pub PresentIsWhole : Type 0
PresentIsWhole = (base : Base) (book : List BookEntry) (entry : BookEntry) (t : ℕ) → IsTrue (is_by t entry)
    → history_at base (book ++ entry ∷ []) t ≡ history_of base (book ++ entry ∷ [])
