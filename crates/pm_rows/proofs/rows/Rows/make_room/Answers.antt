use Rattle.std.proofs.{Common.{◌≡◌, fold, take, sym, ap, subst, ◌∙◌, arith}, lemmas.Grind.common_steps}
use Rattle.pm_rows.{specs.NetChanges.{missing_keys, HasRoom}, proofs.Room.{with_empty, room_undone, room_made}}
use Rattle.pm_rows.proofs.rows.Rows.make_room.Goals as goal

pub returns-clause-room : goal.returns-clause-room
returns-clause-room c =
    let keys = c.deref-key-items.ensures.value ∙ c.in_ok-missing.ensures in
    let whole : take c.loop-key.key-index c.deref-key-items.result.now ≡ c.deref-key-items.result.now = grind (arith, common_steps) in
    let now : c.loop-key.self ≡ fold with_empty c.args.self.now (missing_keys c.args.self.now c.args.net.now) =
    c.loop-key.invariant ∙ ap (fold with_empty c.args.self.now) (whole ∙ keys) in
    subst (HasRoom c.args.net.now c.args.self.now) (sym now) (room_made c.args.self.now c.args.net.now)

pub returns-clause-undone : goal.returns-clause-undone
returns-clause-undone c =
    room_undone c.args.self.now c.args.net.now c.in_ok-missing.missing.items c.deref-key-items.result.now c.loop-key.key-index c.loop-key.self
    c.in_ok-missing.ensures c.deref-key-items.ensures.value c.loop-key.invariant

pub returns-in-Err-clause-err : goal.returns-in-Err-clause-err
returns-in-Err-clause-err c =
    c.take_out_all.ensures
    ∙ room_undone c.args.self.now c.args.net.now c.deref.result.now c.deref-key-items.result.now c.loop-key.key-index _
    (c.deref.ensures.value ∙ c.in_ok-missing.ensures) (c.deref-key-items.ensures.value ∙ sym c.deref.ensures.value) (c.in-Err.ensures.err ∙ c.loop-key.invariant)
