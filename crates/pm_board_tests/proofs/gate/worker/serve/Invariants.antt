use Rattle.pm_board_tests.specs.GateChildren.{RunsSession}
use Rattle.pm_board_tests.proofs.gate.worker.serve.Given as goal

abbrev pub invariant-loop : goal.invariant-loop
invariant-loop g l = (goal.iterator-loop g).can_next l.iterator' × (goal.iterator-loop g).is_finite l.iterator' × RunsSession l.post.knows.work
