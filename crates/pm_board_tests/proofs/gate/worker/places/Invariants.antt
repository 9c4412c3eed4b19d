use Rattle.std.proofs.Common.{◌+◌, ◌≤◌}
use Rattle.pm_board_tests.specs.GateChildren.{HasChildren}
use Rattle.pm_board_tests.proofs.gate.worker.places.Given as goal

abbrev pub invariant-loop-worker : goal.invariant-loop-worker
invariant-loop-worker l = HasChildren 3 (3 + l.place) (l.fn.last_pid + l.place) l.roster.knows × (l.place ≤ 8)
