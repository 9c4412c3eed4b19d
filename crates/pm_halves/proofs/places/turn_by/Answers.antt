use Rattle.std.proofs.Common.{◌≡◌, suc, ◌+◌, refl, ap, ◌∙◌, arith}
use Rattle.atomic_table.specs.Table.{turned}
use Rattle.pm_halves.specs.Places.{turned_by}
use Rattle.pm_halves.proofs.places.turn_by.Goals as goal

pub loop-init : goal.loop-init
loop-init g c = (refl, refl, refl)

pub loop-preserved : goal.loop-preserved
loop-preserved g c =
    let next : suc c.loop.counter ≡ c.loop.counter + 1 = omega arith in (
      c.turn.ensures.0 ∙ c.loop.invariant.0,
      c.turn.ensures.1 ∙ c.loop.invariant.1,
      c.turn.ensures.2 ∙ (ap (λ me. (me.0, turned me.1)) c.loop.invariant.2 ∙ ap (λ n. (c.args.seat.now.me.0, turned_by n c.args.seat.now.me.1)) next),
    )

pub returns-clause-same : goal.returns-clause-same
returns-clause-same g c = (c.loop.invariant.0, c.loop.invariant.1)

pub returns-clause-turned : goal.returns-clause-turned
returns-clause-turned g c =
    let all : c.loop.counter ≡ c.args.times = omega arith in c.loop.invariant.2 ∙ ap (λ n. (c.args.seat.now.me.0, turned_by n c.args.seat.now.me.1)) all
