use Rattle.pm_board_tests.specs.Drive.{IsFree}
use Rattle.pm_board_tests.proofs.one_slot.drive_all.Given as goal

abbrev pub invariant-loop-index : goal.invariant-loop-index
invariant-loop-index g l = IsFree l.roster.knows l.index
