use Rattle.pm_supervisor_crashes.proofs.EndLaws.{end_for_cause}
use Rattle.pm_supervisor_crashes.proofs.laws.ends_for_cause.Goals as goal

pub returns : goal.returns
returns c = end_for_cause c.restarts_safely.ensures
