use Rattle.pm_board.specs.Posts as idle_posts
use Rattle.pm_board_tests.proofs.GateBoards as boards
use Rattle.pm_board_tests.proofs.gate.scene.take_post.Goals as goal

pub loop-preserved : goal.loop-preserved
loop-preserved c = idle_posts.taken_idle _ _ _ c.take.ensures c.loop.invariant

pub returns-clause-left : goal.returns-clause-left
returns-clause-left c = idle_posts.taken_idle _ _ _ c.take-2.ensures c.loop.invariant

pub returns-clause-idle : goal.returns-clause-idle
returns-clause-idle c = boards.first_idle _ _ _ c.take-2.ensures c.loop.invariant
