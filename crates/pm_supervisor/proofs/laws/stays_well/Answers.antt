use Rattle.pm_supervisor.proofs.Wells.{well-empty_trace, well-step, well-run}
use Rattle.pm_supervisor.proofs.laws.stays_well.Goals as goal

pub returns : goal.returns
returns c =
    record { begins = well-empty_trace; step = well-step; runs = well-run }
