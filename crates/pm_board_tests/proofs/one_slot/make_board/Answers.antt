use Rattle.pm_board_tests.proofs.Drives as drives
use Rattle.pm_board_tests.proofs.one_slot.make_board.Goals as goal
use Rattle.pm_board.specs.Posts as idle_posts

pub loop-preserved : goal.loop-preserved
loop-preserved c = idle_posts.taken_idle _ _ _ c.take.ensures c.loop.invariant

pub returns : goal.returns
returns c = (drives.is_free _ c.args.slots _ c.args.slots c.requires.0 c.in_ok-roster.ensures.roster, idle_posts.first_idle _ _ _ c.in-Some.ensures c.loop.invariant)
