use Rattle.pm_once_completeness.proofs.Journals.{completes}
use Rattle.pm_once_completeness.proofs.laws.completes_its_runs.Goals as goal

pub returns : goal.returns
returns c = completes c.restarts_safely.ensures
