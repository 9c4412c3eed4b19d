-- How a file is read whole: a base, and batches whose commits are made in the rows one by one.
use Rattle.std.specs.Prelude.{ℕ, suc, ◌+◌, ◌-◌, ◌&&◌, nat_le, nat_eq, min, Bool, List, length, Result, Ok}
use Rattle.std.specs.FinMap as map
use Rattle.pm_rows.specs.{declared.commit.Change.Change, Fold.{RowMap, committed}, Size.size_of, Limits.{max_commits, max_rows, max_rows_bytes}}
use Rattle.pm_disk.specs.declared.disk.Which.{Which}
use Rattle.pm_record.specs.{declared.{base.Base.Base, batch.Progress.Progress, found.Found.Found}, Reading.{Read, ◌>>=◌, number_at, may_be, checked}, Repeated.{stepped, through_at}, Gated.through_gates, Bodies.{body_ranges, commits_ranges, commit_at, commit_left}, Base.base_at}

-- whether rows are few and small enough
abbrev pub is_within : RowMap → Bool
is_within rows = nat_le (map.len rows) max_rows && nat_le (size_of rows) max_rows_bytes

-- ---- commits, made in the rows

-- a commit is wrong at its last byte where the rows after it pass their limits
abbrev pub commit_in : ℕ → ℕ × RowMap → List ℕ → Read (List Change)
commit_in c state bytes = checked (λ commit. is_within (committed state.1 commit)) (commit_at c state.0 bytes)

-- the bytes of the body that are left, and the rows
abbrev pub made : ℕ × RowMap → List Change → ℕ × RowMap
made state commit = (commit_left state.0 commit, committed state.1 commit)

abbrev pub commit_step : ℕ → ℕ × RowMap → List ℕ → Read (ℕ × RowMap)
commit_step c state bytes = stepped made state (commit_in c state bytes)

abbrev pub rows_behind : ℕ → ℕ × RowMap → List ℕ → Read RowMap
rows_behind n state bytes = through_at commit_step n state bytes >>= λ s. Ok (s.0.1, s.1)

-- ---- batches

-- the number of commits, the rows, and the number of batches
abbrev pub State : Type 0
State = ℕ × RowMap × ℕ

abbrev pub told : Progress → State
told progress = (progress.count, progress.rows, progress.batches)

-- how many commits more the number has room for, and how many of them a batch may have
abbrev pub room_for : ℕ → ℕ
room_for count = 18446744073709551615 - count

abbrev pub top_for : ℕ → ℕ
top_for count = min (room_for count) max_commits

abbrev pub batch_step : State → List ℕ → Read State
batch_step state bytes = do
  long ← number_at (may_be (body_ranges (top_for state.0))) 4 0 bytes
  commits ← number_at (may_be (commits_ranges (top_for state.0) (long.0 - 4))) 4 0 long.1
  rows ← rows_behind commits.0 (long.0 - 4, state.1) commits.1
  Ok ((state.0 + commits.0, rows.0, state.2 + 1), rows.1)

abbrev pub room_in : State → ℕ
room_in state = room_for state.0

abbrev pub batches_at : State → List ℕ → Read State
batches_at state bytes = through_gates batch_step room_in (suc (room_in state)) state bytes

-- ---- the file

-- a base is wrong at its last byte where its rows pass their limits
abbrev pub small_base_at : List ℕ → Read Base
small_base_at bytes = checked (λ base. is_within base.rows) (base_at bytes)

-- what stands behind the open gate of a file
abbrev pub found_at : Which → List ℕ → Result Found ℕ
found_at file bytes = do
  base ← small_base_at bytes
  behind ← batches_at (base.0.count, base.0.rows, 0) base.1
  Ok (record {
    file = file;
    epoch = base.0.epoch;
    base_end = 1 + (length bytes - length base.1);
    end = length bytes - length behind.1;
    rows = behind.0.1;
    base_count = base.0.count;
    count = behind.0.0;
    batches = behind.0.2;
    clean = base.0.clean && nat_eq behind.0.2 0;
  })
