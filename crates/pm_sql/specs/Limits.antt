-- What a script may hold. A writing statement is a change of a commit at most, so that there are as many of either.
use Rattle.std.specs.Prelude.{ℕ, ◌≤◌, Bool, true, false, List, length, count_by, sum_by, All}
use Rattle.pm_rows.specs.Limits.{max_value_bytes, max_changes}
use Rattle.pm_sql.specs.declared.stmt.Stmt.{Stmt, TheVariants.{Insert, Update, Delete, Select, Count, Sleep}}

-- the seconds of a pause: a day
abbrev pub max_sleep_seconds : ℕ
max_sleep_seconds = 86400

-- whether a statement writes
abbrev pub is_writing : Stmt → Bool
is_writing (Insert key value) = true
is_writing (Update key value) = true
is_writing (Delete key) = true
is_writing (Select key) = false
is_writing Count = false
is_writing (Sleep seconds) = false

-- a value that is written is short enough
abbrev pub HasShortValue : Stmt → Type 0
HasShortValue (Insert key value) = length value ≤ max_value_bytes
HasShortValue (Update key value) = length value ≤ max_value_bytes
HasShortValue (Delete key) = Unit {0}
HasShortValue (Select key) = Unit {0}
HasShortValue Count = Unit {0}
HasShortValue (Sleep seconds) = Unit {0}

-- few statements write, and each value that they write is short enough
pub record IsWithinScriptLimits (stmts : List Stmt) : Type 0 where
  pub writing : count_by is_writing stmts ≤ max_changes
  pub values : All HasShortValue stmts

-- the seconds that a statement sleeps
abbrev pub seconds_of : Stmt → ℕ
seconds_of (Insert key value) = 0
seconds_of (Update key value) = 0
seconds_of (Delete key) = 0
seconds_of (Select key) = 0
seconds_of Count = 0
seconds_of (Sleep seconds) = seconds

-- the seconds that statements sleep, all together
abbrev pub sleep_seconds : List Stmt → ℕ
sleep_seconds stmts = sum_by seconds_of stmts
