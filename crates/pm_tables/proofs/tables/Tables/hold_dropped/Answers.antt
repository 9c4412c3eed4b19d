use Rattle.pm_tables.proofs.HeldLaws.{held_dropped}
use Rattle.pm_tables.proofs.tables.Tables.hold_dropped.Goals as goal

pub returns : goal.returns
returns c = held_dropped c.args.self.now c.swap.new.self c.args.name.now c.swap.result c.new.result c.swap.ensures.was c.swap.ensures.some c.swap.ensures.none c.new.ensures.none
