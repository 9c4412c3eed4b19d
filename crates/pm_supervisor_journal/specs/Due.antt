-- The acts and requests that are due of a supervisor at work.
use Rattle.std.specs.Prelude.{ℕ, nat_le, Bool, ◌≡◌, List, false, [], ◌∷◌}
use Rattle.pm_state.specs.pm_supervisor.declared.Ending.TheVariants as endings
use Rattle.pm_state.specs.{declared.action.Action.Action, Journal.last_pid}
use Rattle.pm_state.specs.declared.action.Action.TheVariants as act
use Rattle.pm_supervisor_journal.specs.Standing.{Standing, IsAtRest}

-- the last pid was drawn
abbrev pub is_last_drawn : ℕ → Bool
is_last_drawn pid = nat_le last_pid pid

-- Nobody is to be killed, since the server tells its machine no time; a server ends for want of a restart, and begins another
-- generation, only where nobody has asked it to shut down.
abbrev pub AreOurs : Bool → List Action → Type 0
AreOurs asked [] = Unit {0}
AreOurs asked (act.KillAll ∷ acts) = ⊥
AreOurs asked (act.End endings.RestartOff ∷ acts) = (asked ≡ false) × AreOurs asked acts
AreOurs asked (act.Reset ∷ acts) = (asked ≡ false) × AreOurs asked acts
AreOurs asked (_ ∷ acts) = AreOurs asked acts

-- they are lines alone
abbrev pub AreSays : List Action → Type 0
AreSays [] = Unit {0}
AreSays (act.Say line ∷ rest) = AreSays rest
AreSays (_ ∷ rest) = ⊥

-- nothing is due, no request is owed, and the server goes on
pub record IsIdle (s : Standing) : Type 0 where
  pub rests : IsAtRest s
  pub unowed : s.owes_smart ≡ false
