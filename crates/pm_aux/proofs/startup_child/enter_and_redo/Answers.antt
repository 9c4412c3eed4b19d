use Rattle.std.proofs.Common.{inr}
use Rattle.pm_exit.specs.declared.child.Kind.TheVariants.{Startup}
use Rattle.pm_query.{specs.Calls.newcomer, proofs.NotedLaws.newcomer_is}
use Rattle.pm_child_life.proofs.AttentionLaws.{untouched_on}
use Rattle.pm_aux.proofs.Noting.{entered, learned_outside}
use Rattle.pm_aux.proofs.startup_child.enter_and_redo.Goals as goal

pub returns-in-Ok-clause-notes : goal.returns-in-Ok-clause-notes
returns-in-Ok-clause-notes g c =
    let enter = c.in-Ok.ensures in
    let noted = entered g.W.Store.notes Startup _ _ c.redo_and_leave.result _ _ _ g.met.W.Store.in_turn
    (newcomer_is c.args.pid c.args.generation _ _ _ (g.met.W.Store.stays _ _ _ enter.notes.1) enter.view) enter.notes c.redo_and_leave.ensures.notes in
    (noted.0, noted.1, inr noted.2)

pub returns-in-Err-clause-learned : goal.returns-in-Err-clause-learned
returns-in-Err-clause-learned g c =
    let call = c.in-Err.ensures.notes in
    learned_outside g.row.W-Pass.Denot (g.W.Store.learned c.enter.new.self) (newcomer (g.W.Store.stamp c.args.work.now) c.args.pid c.args.generation) c.in-Err.no call.0 call.2

pub returns-in-Ok-clause-life : goal.returns-in-Ok-clause-life
returns-in-Ok-clause-life g c = untouched_on _ _ _ _ _ _ c.enter.ensures.life c.redo_and_leave.ensures.life
