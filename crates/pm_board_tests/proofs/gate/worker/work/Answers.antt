use Rattle.std.proofs.Common.{ap}
use Rattle.pm_board_tests.proofs.GatePosts as posts
use Rattle.pm_board_tests.proofs.gate.worker.work.Goals as goal

pub loop-preserved : goal.loop-preserved
loop-preserved g c = let met = c.in-Job.ensures.met.1 in (tt, tt, posts.exits _ _ met.0 _ _ (ap (λ w. w.work) met.5) c.exit.ensures.knows)
