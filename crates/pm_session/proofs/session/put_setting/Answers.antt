use Rattle.std.proofs.Common.{arith, length, ap, length-append}
use Rattle.pm_wire.specs.Backend.{Param, spelling}
use Rattle.pm_session.proofs.session.put_setting.Goals as goal

pub put-requires-clause-room : goal.put-requires-clause-room
put-requires-clause-room c = omega (arith, c.back_messages_have_a_longest.ensures (Param c.args.name.now c.args.value.now) tt, c.requires.short, c.requires.room)

pub returns-clause-short : goal.returns-clause-short
returns-clause-short c =
    omega (arith, c.back_messages_have_a_longest.ensures (Param c.args.name.now c.args.value.now) tt, c.requires.short, ap length c.put.ensures.bytes, length-append c.args.outbox.now.bytes (spelling (Param c.args.name.now c.args.value.now)))
