use Rattle.pm_supervisor_chain.proofs.WorkedStepProofs.{clean-writes, crash-writes, failed-writes}
use Rattle.pm_supervisor_chain.proofs.laws.worked_steps.Goals as goal

pub returns : goal.returns
returns c = record { clean = clean-writes; crash = crash-writes; failed = failed-writes }
