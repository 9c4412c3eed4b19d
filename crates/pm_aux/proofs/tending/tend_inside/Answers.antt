use Rattle.std.proofs.Common.{◌∙◌, ap, subst, sym}
use Rattle.pm_child_life.specs.Life.{Child}
use Rattle.pm_query.proofs.NotedLaws.{call_still}
use Rattle.pm_aux.specs.Ends.{fault_by, IsMetBehind}
use Rattle.pm_aux.proofs.tending.tend_inside.Goals as goal

pub step_out-requires : goal.step_out-requires
step_out-requires g c = (c.args.generation, ap (λ (who : Child). who.attached) c.enter_and_work-cause.ensures.listens.child ∙ c.requires.attached)

pub returns-clause-notes : goal.returns-clause-notes
returns-clause-notes g c = call_still g.W.Store.notes _ _ _ _ g.met.W.Store.in_turn c.enter_and_work-cause.ensures.notes (g.met.W.Store.apart _ _ c.step_out.ensures.rests)

pub returns-clause-met : goal.returns-clause-met
returns-clause-met g c =
    subst (λ met. IsMetBehind met (fault_by c.enter_and_work-cause.result)) (sym (g.met.W.Store.met_still _ _ c.step_out.ensures.rests)) c.enter_and_work-cause.ensures.met
