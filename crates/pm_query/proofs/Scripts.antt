-- How far a script has come.
use Rattle.std.proofs.{Common.{◌≡◌, List, [], ◌∷◌, ◌++◌, refl, ap}, lemmas.List.Sums.fold-append}
use Rattle.pm_sql.specs.{pm_rows.Fold.RowMap, declared.stmt.Stmt.Stmt}
use Rattle.pm_query.specs.{declared.run.Run.Run, Answer.{after_script, after_statement, start_on, items_of}, Run.{progress_of, KnowsFailure}}

-- a run has come to the end of these statements
pub record IsOnTheWay (run : Run) (rows : RowMap) (script : List Stmt) : Type 0 where
  pub progress : progress_of run ≡ after_script rows script
  pub failure : KnowsFailure run

-- with one statement more
pub behind : (rows : RowMap) (before : List Stmt) (last : Stmt) → after_script rows (before ++ last ∷ []) ≡ after_statement (after_script rows before) last
behind rows before last = fold-append after_statement (start_on rows) before (last ∷ [])

pub items_behind : (rows : RowMap) (before : List Stmt) (last : Stmt) → items_of rows (before ++ last ∷ []) ≡ (after_statement (after_script rows before) last).items
items_behind rows [] last = refl
items_behind rows (stmt ∷ before) last = ap (λ progress. progress.items) (behind rows (stmt ∷ before) last)
