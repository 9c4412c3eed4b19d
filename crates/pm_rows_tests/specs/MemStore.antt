-- What the store in memory keeps.
use Rattle.std.specs.Prelude.{◌≡◌, ℕ, ◌+◌, ◌≤◌, List, [], ◌∷◌, Option, None, Some}
use Rattle.pm_outside.specs.Added.{Added}
use Rattle.pm_query.specs.{pm_rows.{Fold.RowMap, declared.commit.Change.Change}, declared.book.BookEntry.BookEntry, History.{count_of, rows_of}, Book.{Base, course_of, history_of}}

-- what is seen of it
pub record Moment : Type 0 where
  pub book : Option (List BookEntry)
  pub rows : RowMap
  pub count : ℕ
  pub redone : Option ℕ

-- its rows are those of the book's history, and so are their number of commits and the number that the redo has kept
pub record IsOf (base : Base) (book : List BookEntry) (rows : RowMap) (count : ℕ) (redone : Option ℕ) : Type 0 where
  pub rows_are : rows ≡ rows_of (history_of base book)
  pub count_is : count ≡ count_of (history_of base book)
  pub redone_is : redone ≡ (course_of base book).redone

-- where the book tells
abbrev pub Holds : Base → Option (List BookEntry) → Moment → Type 0
Holds base None at = Unit {0}
Holds base (Some book) at = IsOf base book at.rows at.count at.redone

-- These entries were noted, and rows that were those of the book's history still are.
pub record Goes (entries : List BookEntry) (before now : Moment) : Type 0 where
  pub notes : Added entries before.book now.book
  pub keeps : (base : Base) → Holds base before.book before → Holds base now.book now

-- one commit more where it has changes
abbrev pub count_behind : ℕ → List Change → ℕ
count_behind count [] = count
count_behind count (change ∷ changes) = count + 1

-- there is room for the entry of a leave, and the child has seen nothing that isn't there
abbrev pub HasSeen : Option ℕ → ℕ → Type 0
HasSeen None count = Unit {0}
HasSeen (Some front) count = front ≤ count

pub record Admits (front : Option ℕ) (count spare : ℕ) : Type 0 where
  pub room : 1 ≤ spare
  pub seen : HasSeen front count
