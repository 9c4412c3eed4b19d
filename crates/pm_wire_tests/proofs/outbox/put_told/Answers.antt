use Rattle.std.proofs.Common.{arith}
use Rattle.pm_wire_tests.proofs.outbox.put_told.Goals as goal

pub put-requires-clause-writable : goal.put-requires-clause-writable
put-requires-clause-writable c = c.conditions_can_be_told.ensures.writable c.args.condition.now c.requires.given

pub put-requires-clause-room : goal.put-requires-clause-room
put-requires-clause-room c = omega (arith, c.conditions_can_be_told.ensures.short c.args.condition.now c.requires.given, c.requires.room)
