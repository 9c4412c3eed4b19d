-- Proofs of the laws of the answer, along the statements.
use Rattle.std.{proofs.{Common.{◌≡◌, true, false, cond, List, [], ◌∷◌, ◌++◌, Option, Some, None, fold, refl, sym, ap, subst, ◌∙◌, arith}, lemmas.{Bool.or_parts, List.Elements.{All-nil, All-cons}}}, specs.{Bool.IsTrue, List.list_any, Option.option_to_list, Prelude.All}}
use Rattle.pm_rows.{specs.{Fold.{RowMap, changed, committed}, Limits.{max_changes, IsWithinRowLimits}, declared.commit.Change.Change}, proofs.RowLaws.committed-push}
use Rattle.pm_sql.specs.{declared.stmt.Stmt.Stmt, Limits.{IsWithinScriptLimits, is_writing}}
use Rattle.pm_sql.specs.declared.stmt.Stmt.TheVariants as stmts
use Rattle.pm_query.{specs.{declared.item.Item.{Item, TheVariants.Empty}, Answer.{Progress, is_error, has_error, has_failed, with_change, effect_of, advanced, after_statement, start_on, after_script, items_of, commit_of}, Laws.{CommitLeavesRows, ErrorsComeLast, OnlyWritesCommit}, Limits.{HasShortRows, HasShortValues, IsShortChange, IsWithinCommitLimits}}, proofs.{Keeping.{IsKept, kept_script}, ReadingLaws.reads_commit_nothing}}

none_last : (rows : RowMap) (changes : List Change) → committed rows (changes ++ []) ≡ committed rows changes
none_last rows [] = refl
none_last rows (first ∷ changes) = none_last (changed rows first) changes

-- the rows so far are the table with the changes so far
abbrev pub Follows : RowMap → Progress → Type 0
Follows table progress = progress.rows ≡ committed table progress.changes

follows_change : (table rows : RowMap) (changes : List Change) (change : Option Change) → rows ≡ committed table changes → with_change rows change ≡ committed table (changes ++ option_to_list change)
follows_change table rows changes None e = e ∙ sym (none_last table changes)
follows_change table rows changes (Some change) e = ap (λ r. changed r change) e ∙ sym (committed-push table changes change)

follows_statement : (table : RowMap) (progress : Progress) (stmt : Stmt) → Follows table progress → Follows table (after_statement progress stmt)
follows_statement table progress stmt e =
    elim (has_failed progress) as (λ b. Follows table (cond b progress (advanced progress (effect_of progress.rows stmt)))) [
      | true ↦ e
      | false ↦ follows_change table progress.rows progress.changes (effect_of progress.rows stmt).change e
    ]

follows_script : (table : RowMap) (progress : Progress) (script : List Stmt) → Follows table progress → Follows table (fold after_statement progress script)
follows_script table progress [] e = e
follows_script table progress (stmt ∷ script) e = follows_script table (after_statement progress stmt) script (follows_statement table progress stmt e)

pub commit_leaves_rows_law : CommitLeavesRows
commit_leaves_rows_law rows [] h = refl
commit_leaves_rows_law rows (stmt ∷ script) h =
    let end = after_script rows (stmt ∷ script) in
    follows_script rows (start_on rows) (stmt ∷ script) refl ∙ sym (ap (λ b. committed rows (cond b [] end.changes)) h)

pub failure_commits_nothing : (rows : RowMap) (script : List Stmt) → IsTrue (has_error (items_of rows script)) → commit_of rows script ≡ []
failure_commits_nothing rows [] h = refl
failure_commits_nothing rows (stmt ∷ script) h = ap (λ b. cond b [] (after_script rows (stmt ∷ script)).changes) h

pub only_writes_commit_law : OnlyWritesCommit
only_writes_commit_law rows script some =
    elim (list_any is_writing script) as (λ b. list_any is_writing script ≡ b → IsTrue b) [
      | true ↦ λ _. refl
      | false ↦ λ reads. absurd (some (reads_commit_nothing rows script reads))
    ] refl

no_item : (before after : List Item) (item : Item) → [] ≡ before ++ item ∷ after → after ≡ []
no_item [] after item e = cc
no_item (b ∷ before) after item e = cc

-- one item more after items without an error
one_more : (items : List Item) (last : Item) → list_any is_error items ≡ false → ErrorsComeLast (items ++ last ∷ [])
one_more [] last none [] after item e h = cc
one_more [] last none (b ∷ before) after item e h = no_item before after item cc
one_more (first ∷ items) last none [] after item e h =
    let calm = (or_parts (is_error first) (list_any is_error items) none).0 in
    let same : first ≡ item = cc in
    let error : is_error first ≡ true = ap is_error same ∙ h in
    cc
one_more (first ∷ items) last none (b ∷ before) after item e h = one_more items last (or_parts (is_error first) (list_any is_error items) none).1 before after item (cc) h

ends_statement : (progress : Progress) (stmt : Stmt) → ErrorsComeLast progress.items → ErrorsComeLast (after_statement progress stmt).items
ends_statement progress stmt e =
    elim (has_failed progress) as (λ b. has_failed progress ≡ b → ErrorsComeLast (cond b progress (advanced progress (effect_of progress.rows stmt))).items) [
      | true ↦ λ _. e
      | false ↦ λ none. one_more progress.items (effect_of progress.rows stmt).item none
    ] refl

ends_script : (progress : Progress) (script : List Stmt) → ErrorsComeLast progress.items → ErrorsComeLast (fold after_statement progress script).items
ends_script progress [] e = e
ends_script progress (stmt ∷ script) e = ends_script (after_statement progress stmt) script (ends_statement progress stmt e)

pub errors_come_last : (rows : RowMap) (script : List Stmt) → ErrorsComeLast (items_of rows script)
errors_come_last rows [] before after item e h = one_more [] _ refl before after item e h
errors_come_last rows (stmt ∷ script) before after item e h = ends_script (start_on rows) (stmt ∷ script) no_item_yet before after item e h where
  no_item_yet : ErrorsComeLast []
  no_item_yet before after item e h = no_item before after item e

-- ---- limits

kept_from_start : (rows : RowMap) (script : List Stmt) → IsWithinScriptLimits script → IsKept rows max_changes (after_script rows script)
kept_from_start rows script limits =
    let start : IsKept rows 0 (start_on rows) = record { within = λ h. h; rows_short = λ h. h; items_short = λ _. All-nil HasShortValues; changes_short = All-nil IsShortChange; few = omega arith } in
    let is = kept_script rows 0 (start_on rows) script limits.values start in
    record { within = is.within; rows_short = is.rows_short; items_short = is.items_short; changes_short = is.changes_short; few = omega (arith, is.few, limits.writing) }

pub commit_limits : (rows : RowMap) (script : List Stmt) → IsWithinScriptLimits script → IsWithinCommitLimits (commit_of rows script)
commit_limits rows script limits =
    let is = kept_from_start rows script limits in
    elim (has_failed (after_script rows script)) as (λ b. IsWithinCommitLimits (cond b [] (after_script rows script).changes)) [
      | true ↦ record { few = omega arith; short = All-nil IsShortChange }
      | false ↦ record { few = is.few; short = is.changes_short }
    ]

-- the rows that are committed are the table, or those after the script
either_rows : (P : RowMap → Type 0) (rows : RowMap) (script : List Stmt) → P rows → P (after_script rows script).rows → P (committed rows (commit_of rows script))
either_rows P rows script before behind =
    elim (has_failed (after_script rows script)) as (λ b. P (committed rows (cond b [] (after_script rows script).changes))) [
      | true ↦ before
      | false ↦ subst P (follows_script rows (start_on rows) script refl) behind
    ]

pub row_limits : (rows : RowMap) (script : List Stmt) → IsWithinScriptLimits script → IsWithinRowLimits rows → IsWithinRowLimits (committed rows (commit_of rows script))
row_limits rows script limits h = either_rows IsWithinRowLimits rows script h ((kept_from_start rows script limits).within h)

pub short_rows : (rows : RowMap) (script : List Stmt) → IsWithinScriptLimits script → HasShortRows rows → HasShortRows (committed rows (commit_of rows script))
short_rows rows script limits h = either_rows HasShortRows rows script h ((kept_from_start rows script limits).rows_short h)

pub short_items : (rows : RowMap) (script : List Stmt) → IsWithinScriptLimits script → HasShortRows rows → All HasShortValues (items_of rows script)
short_items rows [] limits h = All-cons HasShortValues Empty [] tt (All-nil HasShortValues)
short_items rows (stmt ∷ script) limits h = (kept_from_start rows (stmt ∷ script) limits).items_short h
