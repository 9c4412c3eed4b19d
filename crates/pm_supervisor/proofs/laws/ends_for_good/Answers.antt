use Rattle.pm_supervisor.{specs.Steps.empty_trace, proofs.Wells.{ended-none, last-end}}
use Rattle.pm_supervisor.proofs.laws.ends_for_good.Goals as goal

pub returns : goal.returns
returns c =
    record { step = ended-none; runs = λ limits before rest how run. last-end limits empty_trace before rest how run }
