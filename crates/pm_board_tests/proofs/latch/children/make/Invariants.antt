use Rattle.pm_board_tests.proofs.latch.children.make.Given as goal
use Rattle.pm_board.specs.Posts.{AllIdle}

abbrev pub invariant-loop : goal.invariant-loop
invariant-loop l = AllIdle l.posts.left.items
