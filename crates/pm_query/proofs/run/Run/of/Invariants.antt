use Rattle.std.proofs.Common.{take}
use Rattle.pm_query.proofs.Scripts.{IsOnTheWay}
use Rattle.pm_query.proofs.run.Run.of.Given as goal

abbrev pub invariant-loop-stmt : goal.invariant-loop-stmt
invariant-loop-stmt l = IsOnTheWay l.run l.rows (take l.stmt-index l.before)
