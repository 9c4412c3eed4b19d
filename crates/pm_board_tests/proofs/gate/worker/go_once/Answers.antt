use Rattle.std.proofs.Common.{◌∙◌}
use Rattle.pm_board_tests.proofs.GatePosts as posts
use Rattle.pm_board_tests.proofs.gate.worker.go_once.Goals as goal

pub returns-in-Quit-clause-ends : goal.returns-in-Quit-clause-ends
returns-in-Quit-clause-ends c = posts.exits _ _ c.requires.0 _ _ (c.try_once.ensures ∙ (c.in-Err.ensures.refused.0 ∙ c.requires.1)) c.exit.ensures.knows
