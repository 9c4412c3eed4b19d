use Rattle.pm_query.{specs.Calls.User, proofs.NotedLaws.{behind_as, same_user}}
use Rattle.pm_child_life.proofs.AttentionLaws.{untouched_on}
use Rattle.pm_aux.specs.Work.{ClosesBy}
use Rattle.pm_aux.proofs.checkpoints.drop_and_close.Goals as goal

pub returns-clause-notes : goal.returns-clause-notes
returns-clause-notes g c =
    let dropped = c.checkpoint_drop.ensures in
    behind_as g.W.Store.notes (λ (user : User). ClosesBy user c.close.result) _ _ _ _ _ g.met.W.Store.in_turn
    (same_user _ _ _ _ (g.met.W.Store.stays _ _ _ dropped.notes) dropped.view) dropped.notes c.close.ensures.notes

pub returns-clause-life : goal.returns-clause-life
returns-clause-life g c = untouched_on _ _ _ _ _ _ c.checkpoint_drop.ensures.life c.close.ensures.life
