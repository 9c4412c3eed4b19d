use Rattle.pm_xact.proofs.Asking.{blank}
use Rattle.pm_xact.proofs.laws.blank_runs_nothing.Goals as goal

pub returns : goal.returns
returns c = blank
