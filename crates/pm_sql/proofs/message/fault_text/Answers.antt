use Rattle.pm_sql.proofs.Messages.{short_of, zero_free_of}
use Rattle.pm_sql.proofs.message.fault_text.Goals as goal

pub returns-clause-length : goal.returns-clause-length
returns-clause-length c = short_of c.args.text.now c.args.fault.now c.message_of.result c.message_of.ensures

pub returns-clause-zero : goal.returns-clause-zero
returns-clause-zero c = zero_free_of c.args.text.now c.args.fault.now c.message_of.result c.message_of.ensures
