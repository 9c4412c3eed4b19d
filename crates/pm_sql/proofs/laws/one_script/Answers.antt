use Rattle.pm_sql.proofs.Faults.{one_script_law}
use Rattle.pm_sql.proofs.laws.one_script.Goals as goal

pub returns : goal.returns
returns c = one_script_law
