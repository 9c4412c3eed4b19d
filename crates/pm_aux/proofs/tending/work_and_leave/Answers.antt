use Rattle.pm_query.proofs.NotedLaws.{same_user}
use Rattle.pm_aux.proofs.{Listening.listens_still, Noting.worked}
use Rattle.pm_aux.proofs.tending.work_and_leave.Goals as goal

pub returns-clause-notes : goal.returns-clause-notes
returns-clause-notes g c =
    let work = c.work_by_kind-cause.ensures in
    worked g.W.Store.notes c.args.kind _ _ c.work_by_kind-cause.result _ _ _ g.met.W.Store.in_turn (same_user _ _ _ _ (g.met.W.Store.stays _ _ _ work.notes.1) work.view) work.notes c.leave.ensures.notes

pub returns-clause-listens : goal.returns-clause-listens
returns-clause-listens g c = listens_still 0 _ _ _ _ _ _ c.leave.ensures.life c.work_by_kind-cause.ensures.listens
