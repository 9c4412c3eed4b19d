use Rattle.std.proofs.Common.{inr}
use Rattle.pm_query.proofs.NotedLaws.{newcomer_is}
use Rattle.pm_aux.proofs.Noting.{entered}
use Rattle.pm_aux.proofs.tending.enter_and_work.Goals as goal

pub returns-in-Ok-clause-notes : goal.returns-in-Ok-clause-notes
returns-in-Ok-clause-notes g c =
    let in_ = c.in-Ok.ensures in
    let noted = entered g.W.Store.notes c.args.kind _ _ c.work_and_leave.result _ _ _ g.met.W.Store.in_turn
    (newcomer_is (g.W.Seat.child c.args.work.now).pid c.args.generation _ _ _ (g.met.W.Store.stays _ _ _ in_.notes.1) in_.view) in_.notes c.work_and_leave.ensures.notes in
    (noted.0, noted.1, inr noted.2)
