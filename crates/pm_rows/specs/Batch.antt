-- What goes into a log file at once: commits of a few changes each.
use Rattle.std.specs.{Prelude.{◌≤◌, List, length, All, FitsSigned}, Int.w64, Str.IsUtf8}
use Rattle.pm_rows.specs.{declared.commit.Change.{Change, TheVariants.{Put, Del}}, Limits.{max_value_bytes, max_changes, max_commits}}

-- a key is an i64, and a value is UTF-8 and short enough
abbrev pub IsChange : Change → Type 0
IsChange (Put key value) = FitsSigned w64 key × IsUtf8 value × (length value ≤ max_value_bytes)
IsChange (Del key) = FitsSigned w64 key

pub record IsCommit (commit : List Change) : Type 0 where
  pub some : 1 ≤ length commit
  pub few : length commit ≤ max_changes
  pub changes : All IsChange commit

pub record IsBatch (batch : List (List Change)) : Type 0 where
  pub some : 1 ≤ length batch
  pub few : length batch ≤ max_commits
  pub commits : All IsCommit batch
