use Rattle.std.proofs.Common.{◌≡◌, ◌+◌, ◌*◌, ◌≤◌, take, sum_by}
use Rattle.pm_rows.specs.{LogSize.change_length, Longest.max_change_bytes}
use Rattle.pm_record.proofs.length.commit_length.Given as goal

abbrev pub invariant-loop-change : goal.invariant-loop-change
invariant-loop-change l = (l.length ≡ 2 + sum_by change_length (take l.change-index l.commit)) × (l.length ≤ 2 + max_change_bytes * l.change-index)
