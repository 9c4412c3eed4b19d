use Rattle.std.proofs.Common.{refl}
use Rattle.pm_child_life.specs.Attention.{attention}
use Rattle.pm_session_exchange.{specs.Moments.Attends, proofs.MomentLaws.attends_cancel}
use Rattle.pm_session_exchange.proofs.ear.Ear.cancel.Goals as goal

pub invariant_of-self : goal.invariant_of-self
invariant_of-self g c =
    let before = attention (g.W.Seat.told c.self.inside.work) (g.W.Seat.child c.self.inside.work) c.self.inside.standing in
    let now = attention (g.W.Seat.told c.cancel.new.self) (g.W.Seat.child c.cancel.new.self) c.self.inside.standing in
    let attends : Attends before now = attends_cancel c.args.pid c.args.key before now c.cancel.ensures.told c.cancel.ensures.child refl in
    attends.stands c.self.invariant
