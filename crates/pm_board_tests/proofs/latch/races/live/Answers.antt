use Rattle.std.proofs.Common.{ap}
use Rattle.pm_board.specs.Told.{child_in}
use Rattle.pm_board_tests.proofs.latch.races.live.Goals as goal

pub take-given-requires : goal.take-given-requires
take-given-requires c = (c.loop.invariant.0, ap child_in c.loop.invariant.1)
