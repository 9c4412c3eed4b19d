use Rattle.std.proofs.Common.{◌≡◌, ◌+◌, ◌*◌, ◌≤◌, take, sum_by}
use Rattle.pm_rows.specs.{LogSize.commit_length, Longest.max_commit_bytes}
use Rattle.pm_record.proofs.length.body_length.Given as goal

abbrev pub invariant-loop-commit : goal.invariant-loop-commit
invariant-loop-commit l = (l.length ≡ 4 + sum_by commit_length (take l.commit-index l.batch)) × (l.length ≤ 4 + max_commit_bytes * l.commit-index)
