-- A script that writes nothing commits nothing.
use Rattle.std.{proofs.{Common.{◌≡◌, true, false, cond, List, [], ◌∷◌, Option, Some, None, fold, refl}, lemmas.Bool.or_parts}, specs.List.list_any}
use Rattle.pm_rows.specs.Fold.{RowMap}
use Rattle.pm_sql.specs.{declared.stmt.Stmt.Stmt, Limits.is_writing}
use Rattle.pm_sql.specs.declared.stmt.Stmt.TheVariants as stmts
use Rattle.pm_query.specs.Answer.{Progress, has_failed, effect_of, advanced, after_statement, start_on, after_script, commit_of}

-- a statement that doesn't write makes no change
no_change : (rows : RowMap) (stmt : Stmt) → is_writing stmt ≡ false → (effect_of rows stmt).change ≡ None
no_change rows (stmts.Insert key value) reads = cc
no_change rows (stmts.Update key value) reads = cc
no_change rows (stmts.Delete key) reads = cc
no_change rows (stmts.Select None) reads = refl
no_change rows (stmts.Select (Some key)) reads = refl
no_change rows stmts.Count reads = refl
no_change rows (stmts.Sleep seconds) reads = refl

reads_statement : (progress : Progress) (stmt : Stmt) → is_writing stmt ≡ false → progress.changes ≡ [] → (after_statement progress stmt).changes ≡ []
reads_statement progress stmt reads none =
    elim (has_failed progress) as (λ b. (cond b progress (advanced progress (effect_of progress.rows stmt))).changes ≡ []) [
      | true ↦ none
      | false ↦ rw (none, no_change progress.rows stmt reads) refl
    ]

reads_script : (progress : Progress) (script : List Stmt) → list_any is_writing script ≡ false → progress.changes ≡ [] → (fold after_statement progress script).changes ≡ []
reads_script progress [] reads none = none
reads_script progress (stmt ∷ script) reads none =
    let both = or_parts (is_writing stmt) (list_any is_writing script) reads in
    reads_script (after_statement progress stmt) script both.1 (reads_statement progress stmt both.0 none)

pub reads_commit_nothing : (rows : RowMap) (script : List Stmt) → list_any is_writing script ≡ false → commit_of rows script ≡ []
reads_commit_nothing rows script reads =
    elim (has_failed (after_script rows script)) as (λ b. cond b [] (after_script rows script).changes ≡ []) [
      | true ↦ refl
      | false ↦ reads_script (start_on rows) script reads refl
    ]
