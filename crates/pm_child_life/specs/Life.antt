-- What a child's life tells.
use Rattle.std.specs.{Prelude.{◌≡◌, ℕ, ◌+◌, ◌-◌, ◌^◌, ◌++◌, min, cond, map, option_map, Bool, false, List, [], ◌∷◌, Option, None, Some, IfSome, Result}, List.Contains}
use Rattle.pm_supervisor.specs.declared.Reason.{Reason}
use Rattle.pm_child_life.specs.declared.life.{Attempt.Attempt, GateNo.GateNo, Signals.Signals}

-- whose life it is, whether it is a dead-end child's, and in which generation that child is attached, if it is
pub record Child : Type 0 where
  pub pid : ℕ
  pub is_dead_end : Bool
  pub attached : Option ℕ

abbrev pub attached_in : ℕ → Child → Child
attached_in generation child = record child { attached = Some generation }

abbrev pub let_go : Child → Child
let_go child = record child { attached = None }

-- one signal that a child took
pub data Signal : Type 0 where
  Kill : Signal
  Quit : (reason : Reason) → Signal
  Terminate : Signal
  Cancel : Signal
  Checkpoint : Signal

abbrev pub one_if : Bool → Signal → List Signal
one_if stands signal = cond stands (signal ∷ []) []

abbrev pub quit_in : Option Reason → List Signal
quit_in None = []
quit_in (Some reason) = Quit reason ∷ []

-- those of one answer
abbrev pub signals_in : Signals → List Signal
signals_in signals =
    one_if signals.kill Kill ++ quit_in signals.quit ++ one_if signals.terminate Terminate ++ one_if signals.cancel Cancel
    ++ one_if signals.checkpoint Checkpoint

-- How often a child has asked for its signals, up to 2^64 - 1; all that it was given, each signal with the number of the ask
-- that gave it; what it last met at the gate; and which queries it asked to have cancelled, each by a pid and a key.
pub record Told : Type 0 where
  pub asked : ℕ
  pub given : List (ℕ × Signal)
  pub met : Option Attempt
  pub cancels : List (ℕ × ℕ)

-- of a child that has just started
abbrev pub nothing_told : Told
nothing_told = record { asked = 0; given = []; met = None; cancels = [] }

-- the number of the ask after this one, up to the last number
abbrev pub next_ask : ℕ → ℕ
next_ask asked = min (asked + 1) (2 ^ 64 - 1)

-- the signals of one answer, with its number
abbrev pub numbered : ℕ → List Signal → List (ℕ × Signal)
numbered ask signals = map (λ signal. (ask, signal)) signals

-- it has asked once more, and was given these
abbrev pub asked_again : Signals → Told → Told
asked_again signals told = record told {
  asked = next_ask told.asked;
  given = told.given ++ numbered (next_ask told.asked) (signals_in signals);
}

-- This answer was met by a child that came to the gate as an ordinary one, or as one for whom the reserved places are kept too.
abbrev pub attempt : (is_ordinary : Bool) → Result ℕ GateNo → Attempt
attempt is_ordinary answer = record { is_ordinary = is_ordinary; answer = answer }

abbrev pub met_at_gate : Attempt → Told → Told
met_at_gate attempt told = record told { met = Some attempt }

-- the answer that it last met there
abbrev pub answer_met : Told → Option (Result ℕ GateNo)
answer_met told = option_map (λ attempt. attempt.answer) told.met

abbrev pub asked_cancel : (pid key : ℕ) → Told → Told
asked_cancel pid key told = record told { cancels = told.cancels ++ (pid, key) ∷ [] }

-- at some ask it was given this signal
abbrev pub was_told : Signal → Told → Type 0
was_told signal told = (ask : ℕ) × Contains told.given (ask, signal)

-- where it tells, it hasn't been at the gate
abbrev pub IsUntried : Option Told → Type 0
IsUntried told = IfSome told (λ t. t.met ≡ None)

-- where it tells, it has asked for no cancel
abbrev pub HasNoCancel : Option Told → Type 0
HasNoCancel told = IfSome told (λ t. t.cancels ≡ [])

-- the child lives as it did
pub record IsUntouched (child_before child_now : Child) (told_before told_now : Option Told) : Type 0 where
  pub child_is : child_now ≡ child_before
  pub told_is : told_now ≡ told_before

-- of a life that has no store beside it: at any two moments none was touched
abbrev pub HasNoStore : {L : Type 0} → (before now : L) → Type 0
HasNoStore before now = Unit {0}

-- of a store that has no life beside it: no child sits there
abbrev pub no_child : Child
no_child = record { pid = 0; is_dead_end = false; attached = None }

abbrev pub TouchesNoChild : Type 0
TouchesNoChild = IsUntouched no_child no_child None None
