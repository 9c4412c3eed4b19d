use Rattle.std.proofs.Common.{◌≡◌, ◌≤◌}
use Rattle.pm_board_tests.specs.TwoCounters.{HasCounted}
use Rattle.pm_board_tests.proofs.two_parts.count_all.Given as goal

abbrev pub invariant-loop-round : goal.invariant-loop-round
invariant-loop-round l = (l.seat.table ≡ l.fn.seat.table) × HasCounted l.round l.seat
