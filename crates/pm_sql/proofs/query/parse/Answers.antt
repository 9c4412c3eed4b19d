use Rattle.std.proofs.Common.{sym, subst}
use Rattle.pm_sql.{specs.Faults.IsFaultOf, proofs.Faults.{script_is_query, no_fault_read, fault_is, one_script_law}}
use Rattle.pm_sql.proofs.query.parse.Goals as goal

pub returns-in-Ok-clause-script : goal.returns-in-Ok-clause-script
returns-in-Ok-clause-script c = script_is_query c.args.text.now c.in-Ok.script c.in-Ok.ensures

pub returns-in-Ok-clause-query : goal.returns-in-Ok-clause-query
returns-in-Ok-clause-query c = λ stmts is. one_script_law c.args.text.now c.in-Ok.script stmts (script_is_query c.args.text.now c.in-Ok.script c.in-Ok.ensures) is

pub returns-in-Err-Fault-clause-query : goal.returns-in-Err-Fault-clause-query
returns-in-Err-Fault-clause-query c = λ stmts is. absurd (no_fault_read c.args.text.now stmts c.in-Err-Fault.fault is (rw c.in-Err-Fault.field-0-is at c.in-Err-Fault.ensures))

pub returns-in-Err-Fault-clause-fault : goal.returns-in-Err-Fault-clause-fault
returns-in-Err-Fault-clause-fault c = subst (IsFaultOf c.args.text.now) (sym c.fault_in.ensures) (fault_is c.args.text.now c.in-Err-Fault.fault (rw c.in-Err-Fault.field-0-is at c.in-Err-Fault.ensures))
