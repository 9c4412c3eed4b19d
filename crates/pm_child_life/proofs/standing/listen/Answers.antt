use Rattle.pm_child_life.proofs.Taken.{listened, attentive_now, cancel_stands}
use Rattle.pm_child_life.proofs.standing.listen.Goals as goal

pub returns-clause-hears : goal.returns-clause-hears
returns-clause-hears g c = rw c.with.ensures (listened c.signals.result _ _ _ _ c.args.standing.now c.signals.ensures.told c.signals.ensures.child)

pub returns-clause-attentive : goal.returns-clause-attentive
returns-clause-attentive g c = rw (c.with.ensures, c.signals.ensures.told) (attentive_now c.signals.result (g.F.Seat.told c.args.life.now) (g.F.Seat.child c.args.life.now) (g.F.Seat.child c.signals.new.self) c.args.standing.now c.requires)

pub returns-clause-cancel : goal.returns-clause-cancel
returns-clause-cancel g c = rw c.with.ensures (cancel_stands c.signals.result _ _ (g.F.Seat.child c.args.life.now) (g.F.Seat.child c.signals.new.self) c.args.standing.now c.signals.ensures.told)
