use Rattle.std.{proofs.Common.{◌∙◌, ℕ, Option, None, ap, subst, sym}, specs.Prelude.{if◌then◌else◌}}
use Rattle.pm_child_life.specs.Life.{Child}
use Rattle.pm_query.proofs.NotedLaws.{call_still}
use Rattle.pm_aux.{specs.Ends.{fault_by, lets_go, IsMetBehind}, proofs.Noting.learned_still}
use Rattle.pm_aux.proofs.startup_child.redo.Goals as goal

pub step_out-requires : goal.step_out-requires
step_out-requires g c = (c.args.generation, ap (λ (who : Child). who.attached) c.enter_and_redo-cause.ensures.life.child_is ∙ c.requires.attached)

pub returns-clause-notes : goal.returns-clause-notes
returns-clause-notes g c =
    let noted = rw c.pid-pid.ensures at c.enter_and_redo-cause.ensures.notes in
    call_still g.W.Store.notes _ _ _ _ g.met.W.Store.in_turn noted (g.met.W.Store.apart _ _ c.step_out.ensures.rests)

pub returns-clause-met : goal.returns-clause-met
returns-clause-met g c =
    subst (λ met. IsMetBehind met (fault_by c.enter_and_redo-cause.result)) (sym (g.met.W.Store.met_still _ _ c.step_out.ensures.rests)) c.enter_and_redo-cause.ensures.met

pub returns-clause-learned : goal.returns-clause-learned
returns-clause-learned g c =
    learned_still (g.W.Store.learned c.enter_and_redo-cause.new.work) (g.W.Store.learned c.step_out.new.work) (fault_by c.enter_and_redo-cause.result) (g.met.W.Store.keeps _ _ _ (g.met.W.Store.apart _ _ c.step_out.ensures.rests)) c.enter_and_redo-cause.ensures.learned

pub returns-clause-told : goal.returns-clause-told
returns-clause-told g c = c.step_out.ensures.told ∙ c.enter_and_redo-cause.ensures.life.told_is

pub returns-clause-attached : goal.returns-clause-attached
returns-clause-attached g c =
    c.step_out.ensures.attached
    ∙ ap (λ (at : Option ℕ). if lets_go c.enter_and_redo-cause.result then None else at) (ap (λ (who : Child). who.attached) c.enter_and_redo-cause.ensures.life.child_is ∙ c.requires.attached)
