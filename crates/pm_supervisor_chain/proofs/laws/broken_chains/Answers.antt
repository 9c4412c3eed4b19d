use Rattle.pm_supervisor_chain.proofs.WorkedChainProofs.{early_is_none, miscounted_is_none, twice_is_none, unlisted_is_none}
use Rattle.pm_supervisor_chain.proofs.laws.broken_chains.Goals as goal

pub returns : goal.returns
returns c = record { miscounted = miscounted_is_none; unlisted = unlisted_is_none; twice = twice_is_none; early = early_is_none }
