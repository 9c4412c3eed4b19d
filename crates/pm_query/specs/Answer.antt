-- The answer of a script: its statements, one after another on the rows so far, up to the first error.
use Rattle.std.specs.{Prelude.{ℕ, ℤ, IsTrue, Bool, true, false, cond, if◌then◌else◌, List, [], ◌∷◌, ◌++◌, Option, Some, None, option_to_list, nat_lt, nat_le, fold}, List.list_any, FinMap.{get, contains_key, insert, entries, len}}
use Rattle.pm_sql.specs.{pm_rows.{Fold.{RowMap, changed}, Limits.{max_rows, max_rows_bytes}, Size.size_of, declared.commit.Change.{Change, TheVariants.{Put, Del}}}, Limits.is_writing, declared.stmt.Stmt.Stmt}
use Rattle.pm_sql.specs.declared.stmt.Stmt.TheVariants as stmts
use Rattle.pm_query.specs.declared.{item.Item.Item, effect.Effect.Effect}
use Rattle.pm_query.specs.declared.item.Item.TheVariants as items

-- how far a script has come: the rows as its statements so far leave them, their items, and the changes that they made
pub record Progress : Type 0 where
  pub rows : RowMap
  pub items : List Item
  pub changes : List Change

-- an effect is what one statement answers, and the change that it makes, if any
abbrev pub answers : Item → Effect
answers item = record { item = item; change = None }

abbrev pub makes : Item → Change → Effect
makes item change = record { item = item; change = Some change }

-- whether the rows are as many as they may be
abbrev pub is_full : RowMap → Bool
is_full rows = nat_le max_rows (len rows)

-- whether the rows take more bytes than they may
abbrev pub is_too_large : RowMap → Bool
is_too_large rows = nat_lt max_rows_bytes (size_of rows)

-- the rows of one key: its row, if it has one
abbrev pub row_at : ℤ → Option (List ℕ) → List (ℤ × List ℕ)
row_at key None = []
row_at key (Some value) = (key, value) ∷ []

-- INSERT: a row that isn't there is added, within the limits
abbrev pub insertion : RowMap → ℤ → List ℕ → Effect
insertion rows key value =
    if contains_key rows key then answers (items.Duplicate key)
    else if is_full rows then answers items.TableFull
    else if is_too_large (insert rows key value) then answers items.RowsTooLarge
    else makes items.Insert (Put key value)

-- UPDATE: a row that is there gets the value, within the limit
abbrev pub replacement : RowMap → ℤ → List ℕ → Effect
replacement rows key value =
    if contains_key rows key
    then (if is_too_large (insert rows key value) then answers items.RowsTooLarge else makes (items.Update 1) (Put key value))
    else answers (items.Update 0)

-- DELETE: a row that is there goes
abbrev pub deletion : RowMap → ℤ → Effect
deletion rows key = if contains_key rows key then makes (items.Delete 1) (Del key) else answers (items.Delete 0)

-- what a statement does on the rows
abbrev pub effect_of : RowMap → Stmt → Effect
effect_of rows (stmts.Insert key value) = insertion rows key value
effect_of rows (stmts.Update key value) = replacement rows key value
effect_of rows (stmts.Delete key) = deletion rows key
effect_of rows (stmts.Select None) = answers (items.Rows (entries rows))
effect_of rows (stmts.Select (Some key)) = answers (items.Rows (row_at key (get rows key)))
effect_of rows stmts.Count = answers (items.Count (len rows))
effect_of rows (stmts.Sleep seconds) = answers items.Slept

-- the rows with a change made, if there is one
abbrev pub with_change : RowMap → Option Change → RowMap
with_change rows None = rows
with_change rows (Some change) = changed rows change

abbrev pub is_error : Item → Bool
is_error (items.Duplicate key) = true
is_error items.TableFull = true
is_error items.RowsTooLarge = true
is_error items.Empty = false
is_error items.Insert = false
is_error (items.Update count) = false
is_error (items.Delete count) = false
is_error (items.Rows pairs) = false
is_error (items.Count count) = false
is_error items.Slept = false

-- whether an error is among the items
abbrev pub has_error : List Item → Bool
has_error items = list_any is_error items

abbrev pub has_failed : Progress → Bool
has_failed progress = has_error progress.items

-- one statement further
abbrev pub advanced : Progress → Effect → Progress
advanced progress effect = record {
  rows = with_change progress.rows effect.change;
  items = progress.items ++ effect.item ∷ [];
  changes = progress.changes ++ option_to_list effect.change;
}

-- after a statement; after an error none is run
abbrev pub after_statement : Progress → Stmt → Progress
after_statement progress stmt = cond (has_failed progress) progress (advanced progress (effect_of progress.rows stmt))

-- before the first statement
abbrev pub start_on : RowMap → Progress
start_on rows = record { rows = rows; items = []; changes = [] }

-- after all statements
abbrev pub after_script : RowMap → List Stmt → Progress
after_script rows script = fold after_statement (start_on rows) script

-- the items of a script; one of no statement has the one item Empty
abbrev pub items_of : RowMap → List Stmt → List Item
items_of rows [] = items.Empty ∷ []
items_of rows (stmt ∷ script) = (after_script rows (stmt ∷ script)).items

-- what a script leaves to commit: its changes, or nothing where an error was answered
abbrev pub commit_of : RowMap → List Stmt → List Change
commit_of rows script = let end = after_script rows script in cond (has_failed end) [] end.changes

-- a statement of the script writes
abbrev pub Writes : List Stmt → Type 0
Writes script = IsTrue (list_any is_writing script)
