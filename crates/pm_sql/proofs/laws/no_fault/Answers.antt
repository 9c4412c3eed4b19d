use Rattle.pm_sql.proofs.Faults.{no_fault_law}
use Rattle.pm_sql.proofs.laws.no_fault.Goals as goal

pub returns : goal.returns
returns c = no_fault_law
