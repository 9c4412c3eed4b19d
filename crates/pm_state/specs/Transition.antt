-- What the machine leaves and asks for.
use Rattle.std.specs.Prelude.{List}
use Rattle.pm_state.specs.declared.{action.Action.Action, machine.Machine.Machine}

-- what one event leaves, and what it asks for, in order
pub record Transition : Type 0 where
  pub after : Machine
  pub acts : List Action

abbrev pub transition : List Action → Machine → Transition
transition acts after = record { after = after; acts = acts }
