use Rattle.pm_child_life.proofs.AttentionLaws.{attention_still, attentive_still}
use Rattle.pm_session_exchange.proofs.ear.Ear.ask_flush.Goals as goal

pub invariant_of-self : goal.invariant_of-self
invariant_of-self g c = attentive_still _ _ _ _ c.self.inside.standing c.flush.ensures.life c.self.invariant

pub returns-clause-child : goal.returns-clause-child
returns-clause-child g c = rw (← c.self.view_is) (attention_still _ _ _ _ c.self.inside.standing c.flush.ensures.life)
