use Rattle.pm_child_life.{proofs.AttentionLaws.{attentive_at_gate}, specs.Life.attempt}
use Rattle.pm_session_exchange.proofs.ear.Ear.attach.Goals as goal

pub invariant_of-self : goal.invariant_of-self
invariant_of-self g c = attentive_at_gate (attempt c.args.is_ordinary c.attach.result) _ _ (g.W.Seat.child c.self.inside.work) (g.W.Seat.child c.attach.new.self) c.self.inside.standing c.attach.ensures.told c.self.invariant
