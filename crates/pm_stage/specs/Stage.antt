-- Commits that wait for the log.
use Rattle.std.specs.Prelude.{ℕ, ◌+◌, ◌-◌, List, length, take, drop}
use Rattle.pm_rows.specs.{declared.commit.Change.Change, Limits.max_commits}

-- up to which number the log is flushed, and the commits after that, in order
pub record Waiting : Type 0 where
  pub flushed : ℕ
  pub commits : List (List Change)

-- the number of all commits
abbrev pub front_of : Waiting → ℕ
front_of waiting = waiting.flushed + length waiting.commits

-- those that go into the log next, in one batch
abbrev pub batch_of : Waiting → List (List Change)
batch_of waiting = take max_commits waiting.commits

-- the log is flushed up to this number
abbrev pub flushed_to : ℕ → Waiting → Waiting
flushed_to upto waiting = record { flushed = upto; commits = drop (upto - waiting.flushed) waiting.commits }
