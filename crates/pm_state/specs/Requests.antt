-- Requests to shut down, and the time that they leave. The manual: 19.5 "Shutting Down the Server".
use Rattle.std.specs.Prelude.{ℕ, ◌+◌, false, ◌&&◌, ◌||◌, if◌then◌else◌, nat_le, [], ◌∷◌, Option, Some, None}
use Rattle.pm_supervisor.specs.{pm_modes.{declared.Mode.Mode, Strength.is_immediate}, pm_admit.declared.PmState.PmState}
use Rattle.pm_supervisor.specs.pm_modes.declared.Mode.TheVariants as mode
use Rattle.pm_supervisor.specs.pm_admit.declared.PmState.TheVariants as state
use Rattle.pm_supervisor.specs.declared.Reason.TheVariants as reason
use Rattle.pm_state.specs.declared.action.Action.TheVariants as act
use Rattle.pm_state.specs.declared.action.Line.TheVariants as line
use Rattle.pm_state.specs.{declared.machine.Machine.Machine, Transition.{Transition, transition}, Exits.signalled_of}

-- a shutdown request that is stronger than what stood, by its mode and the state that it meets
abbrev pub asked_in : Mode → PmState → Machine → ℕ → Transition
asked_in mode.Smart state.Run m now = transition (act.Say line.Smart ∷ []) (record m { conns = false })
asked_in mode.Smart state.Startup m now = transition (act.Say line.Smart ∷ []) (record m { state = state.StopBackends })
asked_in mode.Smart _ m now = transition (act.Say line.Smart ∷ []) m
asked_in mode.Fast state.Startup m now = transition (act.Say line.Fast ∷ []) (record m { state = state.StopBackends })
asked_in mode.Fast state.Run m now =
    transition (act.Say line.Fast ∷ act.Say line.AbortingTransactions ∷ []) (record m { state = state.StopBackends })
asked_in mode.Fast _ m now = transition (act.Say line.Fast ∷ []) m
asked_in mode.Immediate _ m now =
    transition
    (act.Say line.Immediate ∷ act.Quit reason.Stop ∷ [])
    (record m { state = state.WaitBackends; abort_at = Some now; startup = signalled_of m.startup })

-- the request takes the place of the one that stood
abbrev pub asked_with : Option Mode → Machine → ℕ → Transition
asked_with None m now = transition [] m
asked_with (Some mode) m now = asked_in mode m.state (record m { shutdown = Some mode }) now

-- how long children that were told to end at once may take, in milliseconds
abbrev pub patience : ℕ
patience = 5000

-- where that is over, what is left is killed
abbrev pub ticked_at : Option ℕ → Machine → ℕ → Transition
ticked_at None m now = transition [] m
ticked_at (Some since) m now =
    if nat_le (since + patience) now && (m.fatal || is_immediate m.shutdown)
    then transition (act.KillAll ∷ []) (record m { abort_at = None })
    else transition [] m
