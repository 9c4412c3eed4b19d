-- Laws of the answer of a script.
use Rattle.std.specs.Prelude.{◌≡◌, ◌≢◌, IsTrue, false, List, [], ◌∷◌, ◌++◌}
use Rattle.pm_sql.specs.{pm_rows.Fold.{RowMap, committed}, declared.stmt.Stmt.Stmt}
use Rattle.pm_query.specs.{declared.item.Item.Item, Answer.{is_error, has_error, after_script, items_of, commit_of, Writes}}

-- an error is the last item of a reply
abbrev pub ErrorsComeLast : List Item → Type 0
ErrorsComeLast reply = (before after : List Item) (item : Item) → reply ≡ before ++ item ∷ after → IsTrue (is_error item) → after ≡ []

-- where no error is answered, the rows after a script are the table with the script's commit made
abbrev pub CommitLeavesRows : Type 0
CommitLeavesRows = (rows : RowMap) (script : List Stmt) → has_error (items_of rows script) ≡ false
    → (after_script rows script).rows ≡ committed rows (commit_of rows script)

-- only a script that writes leaves something to commit
abbrev pub OnlyWritesCommit : Type 0
OnlyWritesCommit = (rows : RowMap) (script : List Stmt) → commit_of rows script ≢ [] → Writes script
