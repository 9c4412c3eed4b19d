-- The answer of a script that was run.
use Rattle.std.specs.Prelude.{◌≡◌, ◌≢◌, []}
use Rattle.pm_query.specs.{pm_rows.Fold.RowMap, Answer.{Writes, commit_of, items_of}, Limits.{IsWithinCommitLimits, KeepsRowLimits, KeepsShortRows, ShowsShortValues}}
use Rattle.pm_store_apart.specs.declared.ran.Ran.{Ran}

-- It is that of its script on these rows, and keeps the limits.
pub record IsAnswerOn (rows : RowMap) (ran : Ran) : Type 0 where
  pub reply_is : ran.reply ≡ items_of rows ran.script
  pub noted_is : ran.noted ≡ ran.reply
  pub commit_is : ran.commit ≡ commit_of rows ran.script
  pub writes : ran.commit ≢ [] → Writes ran.script
  pub commit_limits : IsWithinCommitLimits ran.commit
  pub row_limits : KeepsRowLimits rows ran.commit
  pub short_rows : KeepsShortRows rows ran.commit
  pub short : ShowsShortValues rows ran.reply
