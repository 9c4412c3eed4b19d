use Rattle.pm_board_tests.specs.LatchChildren.{IsBusy}
use Rattle.pm_board_tests.proofs.latch.given.give.Given as goal

abbrev pub invariant-loop-signal : goal.invariant-loop-signal
invariant-loop-signal l = IsBusy l.roster.knows 3
