-- The limits of the whole server, each as a number, and what it is for rows to be within theirs.
use Rattle.std.specs.{Prelude.{ℕ, ◌≤◌}, FinMap.len}
use Rattle.pm_rows.specs.{Fold.RowMap, Size.size_of}

-- the rows of the table
abbrev pub max_rows : ℕ
max_rows = 100000

-- the size of the rows, in bytes
abbrev pub max_rows_bytes : ℕ
max_rows_bytes = 67108864

-- the bytes of a value
abbrev pub max_value_bytes : ℕ
max_value_bytes = 8192

-- the changes of a commit, and the writing statements of a query
abbrev pub max_changes : ℕ
max_changes = 1000

-- the commits of a batch
abbrev pub max_commits : ℕ
max_commits = 256

-- the bytes of a log file
abbrev pub max_file_bytes : ℕ
max_file_bytes = 268435456

-- the rows are few, and small together
pub record IsWithinRowLimits (rows : RowMap) : Type 0 where
  pub few : len rows ≤ max_rows
  pub small : size_of rows ≤ max_rows_bytes
