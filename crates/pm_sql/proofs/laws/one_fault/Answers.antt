use Rattle.pm_sql.proofs.Faults.{one_fault_law}
use Rattle.pm_sql.proofs.laws.one_fault.Goals as goal

pub returns : goal.returns
returns c = one_fault_law
