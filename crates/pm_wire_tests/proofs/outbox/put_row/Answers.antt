use Rattle.std.proofs.{Common.{rules, ◌<◌, ◌≤◌, ◌^◌, ℤ, FitsSigned, w64, length, sym, subst, arith}, lemmas.Int.to_z-of_z}
use lib.Signed.{mag}
use Rattle.pm_wire.specs.{Outgoing.room, Backend.{Pair, spelling}}
use Rattle.pm_wire_tests.proofs.outbox.put_row.Goals as goal

pub put-requires-clause-room : goal.put-requires-clause-room
put-requires-clause-room c =
    let fits : FitsSigned w64 c.args.key = search rules in
    let size : mag c.args.key < 2 ^ 63 = omega (arith, c.ranges.key.sfits) in
    let P : ℤ → Type 0 = λ key. length (spelling (Pair key c.args.value.now)) ≤ room c.args.out.now in
    subst P (sym (to_z-of_z w64 c.args.key fits))
    (omega (arith, c.back_messages_have_a_longest.ensures (Pair c.args.key c.args.value.now) size, c.requires.short, c.requires.room))
