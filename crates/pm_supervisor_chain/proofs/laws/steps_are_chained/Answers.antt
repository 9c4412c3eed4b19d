use Rattle.pm_supervisor_chain.proofs.Chained.{are-chained}
use Rattle.pm_supervisor_chain.proofs.laws.steps_are_chained.Goals as goal

pub returns : goal.returns
returns c = are-chained
