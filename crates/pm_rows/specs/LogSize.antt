-- How many bytes changes take in a log file.
use Rattle.std.specs.Prelude.{ℕ, ◌+◌, List, length, sum_by}
use Rattle.pm_rows.specs.declared.commit.Change.{Change, TheVariants.{Put, Del}}

-- a change: its tag, its key, and for a put the length of the value and the value
abbrev pub change_length : Change → ℕ
change_length (Put key value) = 1 + 8 + 4 + length value
change_length (Del key) = 1 + 8

-- a commit: the number of its changes, and the changes
abbrev pub commit_length : List Change → ℕ
commit_length changes = 2 + sum_by change_length changes

-- the body of a batch: the number of its commits, and the commits
abbrev pub body_length : List (List Change) → ℕ
body_length batch = 4 + sum_by commit_length batch

-- the bytes by which a file grows with a batch: its gate, the length of its body, and the body
abbrev pub need_of : List (List Change) → ℕ
need_of batch = 1 + 4 + body_length batch
