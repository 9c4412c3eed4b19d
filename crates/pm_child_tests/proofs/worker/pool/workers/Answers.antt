use Rattle.std.proofs.{Common.{◌≡◌, ap, ◌∙◌}, lemmas.List.Elements.{All-same, All-push}}
use Rattle.pm_board.specs.pm_board_words.declared.views.Work.TheVariants.{Idle}
use Rattle.pm_board.specs.Posts as idle_posts
use Rattle.pm_child_tests.proofs.Crews as crews
use Rattle.pm_child_tests.proofs.worker.pool.workers.Goals as goal

pub loop-preserved : goal.loop-preserved
loop-preserved g c =
    let first = c.in-Some-Some.ensures in
    let idle = ap (λ p. p.knows.work) c.new.ensures.1 ∙ idle_posts.first_idle _ _ _ first c.loop.invariant.0 in (
      idle_posts.rest_idle _ _ _ first c.loop.invariant.0,
      All-same (λ w. w.post.knows.work ≡ Idle) _ _ c.in_ok-push_back.ensures.items (All-push (λ w. w.post.knows.work ≡ Idle) _ _ c.loop.invariant.1 idle),
    )
