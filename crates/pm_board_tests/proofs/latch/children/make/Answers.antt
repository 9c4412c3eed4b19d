use Rattle.pm_board.specs.Posts as idle_posts
use Rattle.pm_board_tests.proofs.LatchBoards as boards
use Rattle.pm_board_tests.proofs.latch.children.make.Goals as goal

pub loop-preserved : goal.loop-preserved
loop-preserved c = idle_posts.taken_idle _ _ _ c.take.ensures c.loop.invariant

pub returns : goal.returns
returns c = (
  boards.is_new _ _ 9 c.in_ok-roster.ensures.roster,
  idle_posts.first_idle _ _ _ c.in-Some-Some.ensures c.loop.invariant,
  idle_posts.first_idle _ _ _ c.in-Some-Some.ensures' (idle_posts.rest_idle _ _ _ c.in-Some-Some.ensures c.loop.invariant),
)
