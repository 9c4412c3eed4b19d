use Rattle.pm_tables.proofs.HeldLaws.{held_missing, not_some, put_back}
use Rattle.pm_tables.proofs.tables.Tables.hold_changed.Goals as goal

pub returns-in_default-clause-ok : goal.returns-in_default-clause-ok
returns-in_default-clause-ok c = held_missing c.args.self.now c.swap.new.self c.args.name.now c.swap.result c.args.changes.now (not_some c.swap.result c.in_default.not-Some) c.swap.ensures.was c.swap.ensures.none

pub returns-in-Err-clause-err : goal.returns-in-Err-clause-err
returns-in-Err-clause-err c =
    put_back c.args.self.now c.swap.new.self c.swap-in-Err.new.self c.args.name.now c.in-Some.rows c.new.result c.prepare.new.self c.swap-in-Err.result
    c.in-Some.ensures.was c.in-Some.ensures.some c.swap-in-Err.ensures.was c.swap-in-Err.ensures.some c.in-Err.ensures.err
