use Rattle.std.proofs.Common.{◌≡◌, All}
use Rattle.pm_board.specs.{pm_board_words.declared.views.Work.TheVariants.Idle, Posts.AllIdle}
use Rattle.pm_child_tests.proofs.worker.pool.workers.Given as goal

abbrev pub invariant-loop : goal.invariant-loop
invariant-loop g l = AllIdle l.posts.left.items × All (λ w. w.post.knows.work ≡ Idle) l.works.items
