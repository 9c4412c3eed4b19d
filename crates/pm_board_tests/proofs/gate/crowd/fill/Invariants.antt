use Rattle.std.proofs.Common.{◌≡◌, ◌+◌, ◌*◌}
use Rattle.pm_board.specs.Gate.{gate_of}
use Rattle.pm_board_tests.specs.GateChildren.{HasChildren, shut_gate}
use Rattle.pm_board_tests.proofs.gate.crowd.fill.Given as goal

abbrev pub invariant-loop-place : goal.invariant-loop-place
invariant-loop-place l = HasChildren 3 (3 + l.place) (l.fn.round * 8 + l.place) l.roster.knows × (gate_of l.roster.knows ≡ shut_gate (l.fn.round + 1))
