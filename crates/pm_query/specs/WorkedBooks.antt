-- Three small books over a cluster without commits: one is legal, and two are not.
use Rattle.std.specs.{Prelude.{pos, List, [], ◌∷◌, ◌++◌, codes}, FinMap.empty}
use Rattle.pm_sql.specs.{pm_rows.declared.commit.Change.{Change, TheVariants.Put}, declared.stmt.Stmt.Stmt}
use Rattle.pm_sql.specs.declared.stmt.Stmt.TheVariants as stmts
use Rattle.pm_query.specs.{declared.{item.Item.Item, book.BookEntry.{BookEntry, TheVariants.{Opened, Redone, Attached, Answered, Released, Detached}}}, Book.Base}
use Rattle.pm_query.specs.declared.item.Item.TheVariants as items

-- a log file of 31 bytes holds no commit
abbrev pub nothing : Base
nothing = record { rows = empty; count = 0; bytes = 31; faults = 0 }

abbrev pub insert_seven : List Stmt
insert_seven = stmts.Insert (pos 7) (codes "seven") ∷ []

abbrev pub seven_inserted : List Change
seven_inserted = Put (pos 7) (codes "seven") ∷ []

abbrev pub one_insert : List Item
one_insert = items.Insert ∷ []

-- The startup child reads the log; then a session inserts the row (7, 'seven') and is answered.
abbrev pub answered : List BookEntry
answered =
    Opened 1 ∷ Attached 2 1 ∷ Redone 2 1 0 ∷ Detached 2 ∷ Attached 4 1
    ∷ Answered 4 insert_seven one_insert seven_inserted 1 12 ∷ Released 4 1 16 ∷ Detached 4 ∷ []

-- It is answered, and the next generation's redo finds nothing.
abbrev pub forgotten : List BookEntry
forgotten = answered ++ Opened 2 ∷ Attached 5 2 ∷ Redone 5 2 0 ∷ []

-- An answer is released that wasn't given.
abbrev pub unanswered : List BookEntry
unanswered = Opened 1 ∷ Attached 4 1 ∷ Redone 4 1 0 ∷ Released 4 1 16 ∷ []
