use Rattle.pm_board_tests.specs.LatchChildren.{TakesTurns}
use Rattle.pm_board_tests.proofs.latch.races.supervise.Given as goal

abbrev pub invariant-loop-pid : goal.invariant-loop-pid
invariant-loop-pid g l = TakesTurns l.roster.knows l.free l.busy l.pid
