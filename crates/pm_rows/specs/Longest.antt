-- The most bytes that changes take in a log file, where they keep the limits.
use Rattle.std.specs.Prelude.{ℕ, ◌+◌, ◌*◌}
use Rattle.pm_rows.specs.Limits.{max_value_bytes, max_changes, max_commits}

-- a change: a put of the longest value
abbrev pub max_change_bytes : ℕ
max_change_bytes = 1 + 8 + 4 + max_value_bytes

-- a commit: as many of these as it has at most
abbrev pub max_commit_bytes : ℕ
max_commit_bytes = 2 + max_changes * max_change_bytes

-- the body of a batch: as many of those
abbrev pub max_body_bytes : ℕ
max_body_bytes = 4 + max_commits * max_commit_bytes
