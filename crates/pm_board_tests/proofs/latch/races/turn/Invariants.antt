use Rattle.pm_board_tests.specs.LatchChildren.{Waits}
use Rattle.pm_board_tests.proofs.latch.races.turn.Given as goal

abbrev pub invariant-loop : goal.invariant-loop
invariant-loop g l = (goal.iterator-loop g).can_next l.iterator' × (goal.iterator-loop g).is_finite l.iterator' × Waits l.roster.knows l.free l.busy l.pid
