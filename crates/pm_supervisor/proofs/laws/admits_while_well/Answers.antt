use Rattle.pm_supervisor.{specs.Steps.{empty_trace, all_happened}, proofs.Serving.{run-serves, admission-running}}
use Rattle.pm_supervisor.proofs.laws.admits_while_well.Goals as goal

pub returns : goal.returns
returns c =
    λ limits events run ok.
    run-serves limits empty_trace events run (λ running. absurd cc) (admission-running limits (all_happened empty_trace events).now ok)
