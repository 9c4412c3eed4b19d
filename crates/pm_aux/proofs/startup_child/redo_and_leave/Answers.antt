use Rattle.pm_exit.specs.declared.child.Kind.TheVariants.{Startup}
use Rattle.pm_query.proofs.NotedLaws.{same_user}
use Rattle.pm_child_life.proofs.AttentionLaws.{untouched_on}
use Rattle.pm_aux.{specs.Ends.fault_by, proofs.Noting.{worked, learned_still}}
use Rattle.pm_aux.proofs.startup_child.redo_and_leave.Goals as goal

pub returns-clause-notes : goal.returns-clause-notes
returns-clause-notes g c =
    let read = c.read-cause.ensures in
    worked g.W.Store.notes Startup _ _ c.read-cause.result _ _ _ g.met.W.Store.in_turn (same_user _ _ _ _ (g.met.W.Store.stays _ _ _ read.notes.1) read.view) read.notes c.leave.ensures.notes

pub returns-clause-learned : goal.returns-clause-learned
returns-clause-learned g c =
    let left = c.leave.ensures.notes in
    learned_still (g.W.Store.learned c.read-cause.new.work) (g.W.Store.learned c.leave.new.work) (fault_by c.read-cause.result) (g.met.W.Store.keeps _ _ left.0 left.1) c.read-cause.ensures.learned

pub returns-clause-life : goal.returns-clause-life
returns-clause-life g c = untouched_on _ _ _ _ _ _ c.read-cause.ensures.life c.leave.ensures.life
