-- What a scripted life tells.
use Rattle.std.specs.{Prelude.{◌≡◌, ℕ, ◌+◌, ◌++◌, min, false, length, slice_index_or, List, [], ◌∷◌, take, None}, Option.option_to_list}
use Rattle.pm_child_life.specs.{declared.{life.Signals.Signals, scripted.ScriptedLife.ScriptedLife}, Life.{Child, Signal, Told, signals_in, numbered}}

abbrev pub child_of_script : ScriptedLife → Child
child_of_script life = record { pid = life.pid; is_dead_end = life.is_dead_end; attached = life.attached }

-- the signals of answers, the first of which is that to the ask with this number
abbrev pub given_from : ℕ → List Signals → List (ℕ × Signal)
given_from ask [] = []
given_from ask (signals ∷ answers) = numbered ask (signals_in signals) ++ given_from (ask + 1) answers

-- it was given the signals of the answers so far
abbrev pub told_by_script : ScriptedLife → Told
told_by_script life = record {
  asked = life.asked;
  given = given_from 1 (take life.given life.script.items);
  met = life.met;
  cancels = option_to_list life.asked_cancel;
}

-- an answer to an ask for which no signal stands
abbrev pub no_signals : Signals
no_signals = record { kill = false; quit = None; terminate = false; cancel = false; checkpoint = false }

-- it answers the next one of its script, and none after the last
abbrev pub GivesNext : ScriptedLife → Signals → ScriptedLife → Type 0
GivesNext before signals now =
    (now.script ≡ before.script) × (signals ≡ slice_index_or before.script.items before.given no_signals)
    × (now.given ≡ min (before.given + 1) (length before.script.items))
