use Rattle.std.proofs.Common.{◌+◌}
use Rattle.pm_board_tests.specs.Drive.{IsBusy}
use Rattle.pm_board_tests.proofs.one_slot.drive.Given as goal

abbrev pub invariant-loop : goal.invariant-loop
invariant-loop g l = (goal.iterator-loop g).can_next l.iterator' × (goal.iterator-loop g).is_finite l.iterator' × IsBusy l.roster.knows (l.index + 1)
