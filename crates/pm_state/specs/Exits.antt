-- The end of a child, as the supervisor's reaper of children meets it. The manual: 20.14 "Error Handling", for the restart after a
-- crash.
use Rattle.std.specs.Prelude.{ℕ, ◌-◌, Bool, true, false, not, ◌&&◌, ◌||◌, if◌then◌else◌, [], ◌∷◌, Option, Some, None, is_some}
use Rattle.pm_supervisor.specs.{pm_exit.{declared.child.{Kind.Kind, Class.Class}, Ends.{class_of, is_exit_0, is_exit_1}}, pm_modes.Strength.is_immediate, pm_admit.{declared.PmState.PmState, Admission.is_startup}}
use Rattle.pm_supervisor.specs.pm_exit.declared.child.Kind.TheVariants as kind
use Rattle.pm_supervisor.specs.pm_exit.declared.child.Class.TheVariants as class
use Rattle.pm_supervisor.specs.pm_admit.declared.PmState.TheVariants as state
use Rattle.pm_supervisor.specs.declared.Reason.TheVariants as reason
use Rattle.pm_supervisor.specs.declared.Ending.TheVariants as ending
use Rattle.pm_state.specs.declared.action.Action.TheVariants as act
use Rattle.pm_state.specs.{declared.{action.Line.Line, machine.{StartupStatus.StartupStatus, Machine.Machine, Exit.Exit}}, Transition.{Transition, transition}}
use Rattle.pm_state.specs.declared.action.Line.TheVariants as line
use Rattle.pm_state.specs.declared.machine.StartupStatus.TheVariants as startup

-- the startup child, once it was told to end at once
abbrev pub signalled_of : StartupStatus → StartupStatus
signalled_of startup.Running = startup.Signalled
signalled_of other = other

-- the state after a crash
abbrev pub crashed_state : PmState → PmState
crashed_state state.Run = state.WaitBackends
crashed_state state.StopBackends = state.WaitBackends
crashed_state state.Shutdown = state.WaitBackends
crashed_state other = other

-- when the children that are left are to be killed: five seconds after this moment
abbrev pub abort_from : Option ℕ → ℕ → Option ℕ
abort_from None now = Some now
abort_from (Some earlier) now = Some earlier

abbrev pub exit_line : Exit → Line
exit_line exit = line.ChildExit exit.pid exit.kind exit.status

-- what a crash does. Only the first one is told of, and none in an immediate shutdown
unfoldable pub crash_rule : Machine → Exit → Transition
crash_rule m exit =
    let immediate = is_immediate m.shutdown in
    let takes = not m.fatal && not immediate in
    record {
      after = record m {
        state = crashed_state m.state;
        fatal = m.fatal || not immediate;
        startup = if takes then signalled_of m.startup else m.startup;
        abort_at = abort_from m.abort_at exit.now;
      };
      acts =
          if takes
          then act.Say (exit_line exit) ∷ act.Say line.TerminatingOthers ∷ act.Quit reason.Crash ∷ []
          else [];
    }

-- crash_rule, unless the end of the child was a normal one
abbrev pub unless_normal : Class → Machine → Exit → Transition
unless_normal class.Normal m exit = transition [] m
unless_normal _ m exit = crash_rule m exit

-- the machine without its startup child
abbrev pub without_startup : Machine → PmState → Machine
without_startup m next = record m { startup = startup.NotRunning; state = next }

-- the state after the startup child has ended and the server doesn't go on to run
abbrev pub waiting_state : PmState → PmState
waiting_state state.StopBackends = state.StopBackends
waiting_state _ = state.WaitBackends

-- the state after the startup child has ended because it was told to
abbrev pub signalled_state : PmState → PmState
signalled_state state.Startup = state.WaitBackends
signalled_state other = other

abbrev pub is_running : StartupStatus → Bool
is_running startup.Running = true
is_running _ = false

-- the data are up to date: connections are served
abbrev pub redo_ended : Machine → Transition
redo_ended m =
    transition
    (act.Ready ∷ act.Start kind.Checkpointer ∷ act.Start kind.Writer ∷ act.Say line.Ready ∷ [])
    (record (without_startup m state.Run) { fatal = false; abort_at = None; conns = true; checkpointer_due = true; writer_due = true })

-- the end of the startup child: the first line that fits
unfoldable pub startup_exited : Machine → Exit → Transition
startup_exited m exit =
    if is_some m.shutdown && (is_exit_0 exit.status || is_exit_1 exit.status)
    then transition [] (without_startup m (waiting_state m.state))
    else if is_exit_0 exit.status then redo_ended m
    else if is_startup m.state && is_running m.startup
    then transition
    (act.Say (exit_line exit) ∷ act.Say line.AbortingStartup ∷ act.End ending.StartupFailed ∷ [])
    (record (without_startup m m.state) { ended = true })
    else crash_rule (without_startup m (signalled_state m.state)) exit

abbrev pub is_shutdown : PmState → Bool
is_shutdown state.Shutdown = true
is_shutdown _ = false

-- the end of the checkpointer, by its class
abbrev pub checkpointer_exited : Class → Machine → Exit → Transition
checkpointer_exited class.Normal m exit = transition [] (record m { state = state.WaitDeadEnd })
checkpointer_exited _ m exit = crash_rule m exit

-- the machine with one child of this kind less
abbrev pub less_one : Kind → Machine → Machine
less_one kind.Startup m = record m { startup = startup.NotRunning }
less_one kind.Checkpointer m = record m { checkpointer = false }
less_one kind.Writer m = record m { writer = false }
less_one kind.Worker m = record m { children = m.children - 1 }
less_one kind.Backend m = record m { children = m.children - 1 }
less_one kind.DeadEnd m = record m { dead_ends = m.dead_ends - 1 }

-- the end of a child, by its kind
abbrev pub exited_by : Kind → Machine → Exit → Bool → Transition
exited_by kind.Startup m exit was_active = startup_exited m exit
exited_by kind.Checkpointer m exit was_active =
    checkpointer_exited (class_of kind.Checkpointer (is_shutdown m.state) was_active exit.status) (less_one kind.Checkpointer m) exit
exited_by other m exit was_active =
    unless_normal (class_of other (is_shutdown m.state) was_active exit.status) (less_one other m) exit
