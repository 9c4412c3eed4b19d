use Rattle.std.proofs.Common.{◌+◌, ◌*◌}
use Rattle.pm_board_tests.specs.GateChildren.{IsBetween}
use Rattle.pm_board_tests.proofs.gate.crowd.all_generations.Given as goal

abbrev pub invariant-loop-round : goal.invariant-loop-round
invariant-loop-round g l = IsBetween (l.round + 1) (l.round * 8) l.roster.knows
