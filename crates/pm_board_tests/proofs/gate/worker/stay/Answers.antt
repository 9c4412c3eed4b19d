use Rattle.std.proofs.Common.{ap}
use Rattle.pm_board_tests.proofs.GatePosts as posts
use Rattle.pm_board_tests.proofs.gate.worker.stay.Goals as goal

pub returns-then-eq-clause-dies : goal.returns-then-eq-clause-dies
returns-then-eq-clause-dies c = posts.dies _ _ c.requires.0 _ _ _ c.requires.1 c.exit.ensures.knows

pub returns-clause-stays : goal.returns-clause-stays
returns-clause-stays c = (c.requires.0, ap (λ w. w.work) (c.detach.ensures.knows c.requires.0 c.requires.1), c.requires.2)
