-- A child's line to its client, and what the child hears.
use Rattle.std.specs.{Prelude.{◌≡◌, ℕ, Bool, false, Result, MatchResult}, Option.option_map}
use Rattle.pm_child_life.specs.{declared.life.GateNo.GateNo, Life.{attempt, met_at_gate, attached_in}, Attention.{Attention, attention}}
use Rattle.pm_session_exchange.specs.Exchange.{LinkView}

-- what a child works on, and what it was told
pub record EarView (W : Type 0) : Type 0 where
  pub work : W
  pub child : Attention

-- the link besides
pub record LineView (W : Type 0) : Type 0 where
  pub link : LinkView
  pub work : W
  pub child : Attention

-- where no cancel stands
abbrev pub without_cancel : Attention → Attention
without_cancel at = attention at.told at.child (record at.standing { cancel = false })

-- A child that came to the gate as an ordinary one or not, and was let through, is attached in the generation that it was
-- answered; what stands, stands.
pub record MeetsGate (is_ordinary : Bool) (answer : Result ℕ GateNo) (before now : Attention) : Type 0 where
  pub told : now.told ≡ option_map (met_at_gate (attempt is_ordinary answer)) before.told
  pub child : MatchResult answer (λ generation. now.child ≡ attached_in generation before.child) (λ refusal. now.child ≡ before.child)
  pub standing : now.standing ≡ before.standing
