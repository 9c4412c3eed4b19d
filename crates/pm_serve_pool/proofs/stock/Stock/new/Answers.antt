use Rattle.std.proofs.Common.{ℕ, List, subst, sym}
use Rattle.pm_worker.specs.{pm_board.Models.{AreNewPosts, PostModel}, declared.mail.MailTold.MailTold}
use Rattle.pm_board.specs.pm_board_words.declared.views.SessionLimit.{SessionLimit}
use Rattle.pm_serve_pool.specs.Plan.{sessions_of, slots_of}
use Rattle.pm_serve_pool.proofs.stock.Stock.new.Goals as goal

pub returns-clause-posts : goal.returns-clause-posts
returns-clause-posts g c =
    let plan = c.args.plan.now in
    let limit = sessions_of plan.limits in
    let table = c.in_ok-roster.roster.table in
    let left = c.in_ok-roster.posts.left.items in
    subst (λ (posts : List (PostModel MailTold)). AreNewPosts (slots_of plan) limit table posts) (sym c.in_ok-listed.ensures)
    (subst (λ (n : ℕ). AreNewPosts n limit table left) c.slots-slots.ensures
    (subst (λ (l : SessionLimit). AreNewPosts c.slots-slots.result l table left) c.sessions.ensures c.in_ok-roster.ensures.posts))
