use Rattle.pm_state.proofs.InStep.{begins-in_step, call-keeps, child-keeps, kill-keeps}
use Rattle.pm_state.proofs.laws.stays_in_step.Goals as goal

pub returns : goal.returns
returns c =
    let laws = c.stays_well.ensures in
    let shares = c.keeps_what_is_shared.ensures in
    let between = c.takes_child_steps_between.ensures in
    record {
      begins = begins-in_step laws;
      call = λ gives limits kept p call step fit timely.
          call-keeps laws shares between gives kept limits p.replay p.machine p.trace call step fit timely;
      child = λ limits p event step child may. child-keeps laws between limits p.replay p.machine p.trace event step child may;
      kill = λ gives limits p pid step on none there. kill-keeps gives limits p.replay p.machine p.trace pid step on none there;
    }
