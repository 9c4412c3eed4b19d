use Rattle.std.{proofs.Common.{◌≡◌, ◌++◌, length, take}, specs.{Int.{w16, to_be_bytes}, List.flat_map}}
use Rattle.pm_record.specs.Spelling.{change_bytes}
use Rattle.pm_record.proofs.put.put_commit.Given as goal

abbrev pub invariant-loop-change : goal.invariant-loop-change
invariant-loop-change l = l.out ≡ l.fn.out ++ (to_be_bytes w16 (length l.commit) ++ flat_map change_bytes (take l.change-index l.commit))
