-- What the machine does by itself once it is in a state: the rules of a turn.
use Rattle.std.specs.Prelude.{Bool, true, false, not, ◌==◌, ◌&&◌, ◌||◌, if◌then◌else◌, [], ◌∷◌, ◌++◌, None, is_some}
use Rattle.pm_supervisor.specs.pm_exit.declared.child.Kind.TheVariants as kind
use Rattle.pm_supervisor.specs.{pm_modes.Strength.is_immediate, pm_admit.declared.PmState.PmState}
use Rattle.pm_supervisor.specs.pm_admit.declared.PmState.TheVariants as state
use Rattle.pm_supervisor.specs.declared.Ending.TheVariants as ending
use Rattle.pm_state.specs.declared.action.Action.TheVariants as act
use Rattle.pm_state.specs.declared.action.Line.TheVariants as line
use Rattle.pm_state.specs.{declared.machine.{StartupStatus.StartupStatus, Machine.Machine}, Transition.{Transition, transition}}
use Rattle.pm_state.specs.declared.machine.StartupStatus.TheVariants as startup

-- a startup child is to be started
abbrev pub startup_starts : Machine → Machine
startup_starts m = record m { startup = startup.Running; startup_due = true; state = state.Startup }

-- the rules of a turn, each by the state that it is for

abbrev pub start_recovery_in : PmState → Machine → Transition
start_recovery_in state.Init m =
    transition (act.Start kind.Startup ∷ []) (startup_starts m)
start_recovery_in _ m = transition [] m

abbrev pub restart_writer_in : PmState → Machine → Transition
restart_writer_in state.Run m =
    if m.conns && not m.writer then transition (act.Start kind.Writer ∷ []) (record m { writer_due = true }) else transition [] m
restart_writer_in _ m = transition [] m

-- a smart shutdown goes on once the last session has ended
abbrev pub end_smart_in : PmState → Machine → Transition
end_smart_in state.Run m =
    if not m.conns && (m.children == 0) then transition [] (record m { state = state.StopBackends }) else transition [] m
end_smart_in _ m = transition [] m

abbrev pub stop_backends_in : PmState → Machine → Transition
stop_backends_in state.StopBackends m = transition (act.Terminate ∷ []) (record m { state = state.WaitBackends })
stop_backends_in _ m = transition [] m

abbrev pub is_not_running : StartupStatus → Bool
is_not_running startup.NotRunning = true
is_not_running _ = false

-- no child is left that could change anything, but for the checkpointer
abbrev pub are_backends_gone : Machine → Bool
are_backends_gone m = (m.children == 0) && is_not_running m.startup && not m.writer

abbrev pub backends_gone_in : PmState → Machine → Transition
backends_gone_in state.WaitBackends m =
    if not (are_backends_gone m) then transition [] m
    else if m.fatal || is_immediate m.shutdown
    then (if m.checkpointer then transition [] m else transition [] (record m { state = state.WaitDeadEnd }))
    else if m.checkpointer then transition (act.AskCheckpoint ∷ []) (record m { state = state.Shutdown })
    else transition
    (act.Start kind.Checkpointer ∷ act.AskCheckpoint ∷ [])
    (record m { checkpointer_due = true; state = state.Shutdown })
backends_gone_in _ m = transition [] m

abbrev pub dead_ends_gone_in : PmState → Machine → Transition
dead_ends_gone_in state.WaitDeadEnd m =
    if are_backends_gone m && not m.checkpointer && (m.dead_ends == 0)
    then transition [] (record m { state = state.NoChildren })
    else transition [] m
dead_ends_gone_in _ m = transition [] m

abbrev pub children_gone_in : PmState → Machine → Transition
children_gone_in state.NoChildren m =
    if is_some m.shutdown && m.fatal
    then transition (act.Say line.Abnormal ∷ act.End ending.AfterCrash ∷ []) (record m { ended = true })
    else if is_some m.shutdown
    then transition (act.Say line.Down ∷ act.End ending.Clean ∷ []) (record m { ended = true })
    else if not m.limits.restart_after_crash
    then transition (act.Say line.RestartOff ∷ act.End ending.RestartOff ∷ []) (record m { ended = true })
    else transition
    (act.Say line.Reinitializing ∷ act.Reset ∷ act.Start kind.Startup ∷ [])
    (record (startup_starts m) { abort_at = None })
children_gone_in _ m = transition [] m

unfoldable pub start_recovery : Machine → Transition
start_recovery m = start_recovery_in m.state m

unfoldable pub restart_writer : Machine → Transition
restart_writer m = restart_writer_in m.state m

unfoldable pub end_smart : Machine → Transition
end_smart m = end_smart_in m.state m

unfoldable pub stop_backends : Machine → Transition
stop_backends m = stop_backends_in m.state m

unfoldable pub backends_gone : Machine → Transition
backends_gone m = backends_gone_in m.state m

unfoldable pub dead_ends_gone : Machine → Transition
dead_ends_gone m = dead_ends_gone_in m.state m

unfoldable pub children_gone : Machine → Transition
children_gone m = children_gone_in m.state m

-- what a rule does after what went before
abbrev pub and_then : Transition → (Machine → Transition) → Transition
and_then before rule = transition (before.acts ++ (rule before.after).acts) (rule before.after).after

-- the rules of a turn, once each, in this order
unfoldable pub turned_of : Machine → Transition
turned_of m =
    and_then (and_then (and_then (and_then (and_then (and_then (start_recovery m)
    restart_writer) end_smart) stop_backends) backends_gone) dead_ends_gone) children_gone
