use Rattle.std.{proofs.Common.{◌≡◌, ◌<◌, ◌+◌, ℕ, List, arith, sym, ap, ◌∙◌, subst}}
use Rattle.atomic_table.specs.Seated.{TableId}
use Rattle.pm_board.{specs.Rooms.AreShares, proofs.Sharing.more_shares}
use Rattle.pm_board.proofs.room.shares.Goals as goal

pub loop-preserved : goal.loop-preserved
loop-preserved g c =
    let inv = c.loop.invariant in
    let less : c.loop.counter < c.args.count = c.loop-test.true in (
      omega arith,
      c.push_reserved.ensures.len ∙ ap (λ (n : ℕ). n + 1) inv.1,
      c.push_reserved.ensures.capacity ∙ inv.2,
      subst (λ (l : List TableId). AreShares c.args.words.now (c.loop.counter + 1) l) (sym c.push_reserved.ensures.items) (more_shares c.args.words.now c.loop.counter c.loop.all.items c.in_ok-another.field-0 inv.3 c.in_ok-another.ensures),
    )
