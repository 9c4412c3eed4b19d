use Rattle.std.proofs.Common.{◌≡◌, ◌∙◌, ◌∷◌, ◌++◌, [], ℕ, List, length, ap, arith, length-append, sym}
use Rattle.pm_wire.specs.Backend.{Auth, Param, Key, Ready, spelling}
use Rattle.pm_session.proofs.{Closings.{one_more, one_more_of}, Said.bytes_of-one}
use Rattle.pm_session.proofs.session.put_greeting.Goals as goal

pub put-requires-clause-room : goal.put-requires-clause-room
put-requires-clause-room c = omega (arith, c.back_messages_have_a_longest.ensures Auth tt, c.requires.room, ap length c.requires.empty)

pub loop-name-init : goal.loop-name-init
loop-name-init c =
    let first : c.put.new.out.bytes ≡ spelling Auth = c.put.ensures.bytes ∙ ap (λ (l : List ℕ). l ++ spelling Auth) c.requires.empty in
    record {
      bytes = first ∙ sym (bytes_of-one Auth);
      short = omega (arith, ap length first, c.back_messages_have_a_longest.ensures Auth tt);
      room = omega (arith, c.put.ensures.capacity, c.requires.room);
    }

pub loop-name-preserved : goal.loop-name-preserved
loop-name-preserved c = record {
  bytes = one_more_of (λ setting. Param setting.0.now setting.1.now) _ _ (Auth ∷ []) _ _ _ (omega arith) c.loop-name.invariant.bytes c.put_setting.ensures.bytes;
  short = omega (arith, c.put_setting.ensures.short, c.loop-name.invariant.short);
  room = omega (arith, c.put_setting.ensures.capacity, c.loop-name.invariant.room);
}

pub put-requires-2-clause-room : goal.put-requires-2-clause-room
put-requires-2-clause-room c =
    omega (arith, c.back_messages_have_a_longest.ensures (Key c.args.pid c.args.key) tt, c.loop-name.invariant.short, c.loop-name.invariant.room, c.loop-name.auto.name-index-end)

pub put-requires-3-clause-room : goal.put-requires-3-clause-room
put-requires-3-clause-room c =
    omega (
      arith,
      c.back_messages_have_a_longest.ensures (Key c.args.pid c.args.key) tt,
      c.back_messages_have_a_longest.ensures Ready tt,
      ap length c.put-2.ensures.bytes,
      length-append c.loop-name.outbox.bytes (spelling (Key c.args.pid c.args.key)),
      c.put-2.ensures.capacity,
      c.loop-name.invariant.short,
      c.loop-name.invariant.room,
      c.loop-name.auto.name-index-end,
    )

pub returns-clause-bytes : goal.returns-clause-bytes
returns-clause-bytes c =
    let all : c.loop-name.name-index ≡ 6 = omega arith in
    let settings_sent = rw all at c.loop-name.invariant.bytes in
    one_more c.put-2.new.out.bytes _ _ Ready (one_more c.loop-name.outbox.bytes c.put-2.new.out.bytes _ (Key c.args.pid c.args.key) settings_sent c.put-2.ensures.bytes) c.put-3.ensures.bytes
