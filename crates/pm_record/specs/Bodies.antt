-- How the body of a batch is read: as many commits of as many changes as fill it exactly.
use Rattle.std.specs.Prelude.{ℕ, ◌+◌, ◌-◌, ◌*◌, ◌/◌, min, max, List, length}
use Rattle.pm_rows.specs.{declared.commit.Change.Change, Limits.max_changes, Longest.{max_change_bytes, max_commit_bytes}}
use Rattle.pm_record.specs.{declared.number.Ranges.Ranges, Spelling.{change_bytes, commit_bytes}, Reading.{Read, ◌>>=◌, number_at, may_be}, Changes.change_at, Repeated.items_at}

-- Numbers of items, at most so many, that can take exactly so many bytes with what comes after them. Each takes from
-- `low` to `high` bytes, and what is after them takes from `least` to `most`.
abbrev pub count_ranges : ℕ → ℕ → ℕ → ℕ → ℕ → ℕ → Ranges
count_ranges low high least most top long = record {
  low = max 1 ((long - most + (high - 1)) / high);
  high = min top ((long - (least + 4)) / low);
  low2 = max 1 ((long - least + (low - 1)) / low);
  high2 = min top ((long - least) / low);
}

abbrev pub changes_ranges : ℕ → ℕ → Ranges
changes_ranges c long = count_ranges 9 max_change_bytes (11 * c) (max_commit_bytes * c) max_changes long

abbrev pub commits_ranges : ℕ → ℕ → Ranges
commits_ranges top long = count_ranges 11 max_commit_bytes 0 0 top long

abbrev pub change_left : ℕ → Change → ℕ
change_left left change = left - length (change_bytes change)

-- a commit with so many commits after it
unfoldable pub commit_at : ℕ → ℕ → List ℕ → Read (List Change)
commit_at c left bytes = do
  count ← number_at (may_be (changes_ranges c (left - 2))) 2 0 bytes
  items_at (λ n. change_at n c) change_left count.0 (left - 2) count.1

abbrev pub commit_left : ℕ → List Change → ℕ
commit_left left commit = left - length (commit_bytes commit)

-- lengths of a body of at most so many commits
abbrev pub body_ranges : ℕ → Ranges
body_ranges top = record { low = 15; high = 15; low2 = 19; high2 = 4 + max_commit_bytes * top }
