-- The limits of a database, each as a number, and what it is to be within them.
use Rattle.std.specs.{Prelude.{ℕ, ◌≤◌, length, All}, FinMap.{len, keys}}
use Rattle.pm_rows.specs.Limits.{max_rows, max_rows_bytes}
use Rattle.pm_tables.specs.{Tables.TableMap, Sizes.{rows_of, size_of_tables}}

-- the tables
abbrev pub max_tables : ℕ
max_tables = 100

-- the bytes of a name
abbrev pub max_name_bytes : ℕ
max_name_bytes = 63

-- the tables are few, their names short, and all rows together few and small
pub record IsWithinLimits (tables : TableMap) : Type 0 where
  pub few : len tables ≤ max_tables
  pub short : All (λ name. length name ≤ max_name_bytes) (keys tables)
  pub rows : rows_of tables ≤ max_rows
  pub small : size_of_tables tables ≤ max_rows_bytes
