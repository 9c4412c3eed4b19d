use Rattle.std.proofs.Common.{ap}
use Rattle.pm_board_tests.proofs.latch.races.work.Goals as goal

pub live-requires : goal.live-requires
live-requires g c = let met = c.in-Job.ensures.met.1 in (met.0, ap (λ p. p.work) met.5)
