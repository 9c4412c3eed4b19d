use Rattle.pm_board.specs.Places.{IsAssigned}
use Rattle.pm_board_tests.specs.GateChildren.{IsAtSlot}
use Rattle.pm_board_tests.proofs.gate.crowd.reap_ended.Given as goal

abbrev pub invariant-loop : goal.invariant-loop
invariant-loop g l = (goal.iterator-loop g).can_next l.iterator' × (goal.iterator-loop g).is_finite l.iterator' × IsAtSlot l.fn.slot l.fn.roster.knows.notes.last_pid l.fn.roster.knows l.roster.knows × IsAssigned l.roster.knows l.fn.slot
