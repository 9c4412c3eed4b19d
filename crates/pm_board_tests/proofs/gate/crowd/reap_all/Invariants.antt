use Rattle.std.proofs.Common.{◌≡◌, ◌+◌, ◌*◌}
use Rattle.pm_board.specs.Gate.{gate_of}
use Rattle.pm_board_tests.specs.GateChildren.{HasChildren}
use Rattle.pm_board_tests.proofs.gate.crowd.reap_all.Given as goal

abbrev pub invariant-loop-place : goal.invariant-loop-place
invariant-loop-place g l = HasChildren (3 + l.place) 11 (l.fn.round * 8 + 8) l.roster.knows × (gate_of l.roster.knows ≡ gate_of l.fn.roster.knows)
