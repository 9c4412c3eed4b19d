use Rattle.pm_supervisor.proofs.Wells.{clean-end}
use Rattle.pm_supervisor.proofs.laws.ends_clean_behind_a_checkpoint.Goals as goal

pub returns : goal.returns
returns c = clean-end
