use Rattle.pm_supervisor_chain.proofs.WorkedChainProofs.{clean_is_chained, crash_is_chained, failed_is_chained}
use Rattle.pm_supervisor_chain.proofs.laws.worked_chains.Goals as goal

pub returns : goal.returns
returns c = record { clean = clean_is_chained; crash = crash_is_chained; failed = failed_is_chained }
