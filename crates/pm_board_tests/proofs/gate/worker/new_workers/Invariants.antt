use Rattle.pm_board_tests.proofs.gate.worker.new_workers.Given as goal
use Rattle.pm_board.specs.Posts.{AllIdle}

abbrev pub invariant-loop-place : goal.invariant-loop-place
invariant-loop-place l = AllIdle l.posts.left.items
