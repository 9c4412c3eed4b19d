use Rattle.std.proofs.Common.{◌+◌, ◌≤◌}
use Rattle.pm_board_tests.specs.GateChildren.{HasChildren}
use Rattle.pm_board_tests.proofs.gate.reserved.told.Given as goal

abbrev pub invariant-loop-worker : goal.invariant-loop-worker
invariant-loop-worker l = HasChildren 3 (3 + l.place) (0 + l.place) l.roster.knows × (l.place ≤ 4)
