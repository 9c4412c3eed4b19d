use Rattle.std.proofs.Common.{refl}
use Rattle.pm_load_run.proofs.Working.{printed_so}
use Rattle.pm_load_run.proofs.running.workload.Goals as goal

pub returns-in-Ok-clause-said : goal.returns-in-Ok-clause-said
returns-in-Ok-clause-said g c =
    let text = c.in_ok-text.ensures in
    λ _. printed_so c.args.number text.0 _ c.as_bytes.result.now _ _ _ _ text.1 c.as_bytes.ensures.value text.2 (λ err. absurd cc) c.in-Ok.ensures.said

pub returns-clause-said : goal.returns-clause-said
returns-clause-said g c =
    let text = c.in_ok-text.ensures in
    λ _. printed_so c.args.number text.0 _ c.as_bytes.result.now _ _ _ _ text.1 c.as_bytes.ensures.value text.2 (λ err. refl) c.in-Err.ensures.said
