use Rattle.pm_board_tests.specs.LatchChildren.{IsRunning}
use Rattle.pm_board_tests.proofs.latch.races.live.Given as goal

abbrev pub invariant-loop : goal.invariant-loop
invariant-loop l = IsRunning l.post.knows.work
