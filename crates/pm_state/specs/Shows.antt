-- What the machine shows of a supervisor, and what its calls do to the supervisor that it shows.
use Rattle.std.specs.Prelude.{◌≡◌, ℕ, ◌<◌, Bool, true, false, not, ◌==◌, ◌&&◌, if◌then◌else◌, List, [], ◌∷◌, ◌++◌, Option, Some, None, is_none, IsSomeAnd}
use Rattle.pm_supervisor.specs.{pm_exit.{declared.child.{Status.Status, Kind.Kind}, Ends.{class_of, is_exit_0}}, pm_modes.{declared.Mode.Mode, Strength.strengthen_of}, pm_admit.{declared.PmState.PmState, Admission.decide_of}, declared.Limits.Limits, Children.{is_session, is_startup_child, is_checkpointer, is_writer, is_dead_end, child_of, one_if, count_of}, Phase.Phase, Supervisor.Supervisor, Shared.IsReserve, Steps.{Trace, SharedAllows, is_normal, empty_trace, all_happened, IsRun}}
use Rattle.pm_supervisor.specs.pm_exit.declared.child.Kind.TheVariants as kind
use Rattle.pm_supervisor.specs.pm_admit.declared.PmState.TheVariants as state
use Rattle.pm_supervisor.specs.Phase as phase
use Rattle.pm_supervisor.specs.Steps as supervisor
use Rattle.pm_state.specs.{declared.{action.Action.Action, machine.Machine.Machine}, Exits.is_shutdown, Machine.{Accepted, Started, Exited, Asked, Ticked, Turned, step, view_of, IsReady, IsDue, MayAccept}, TurnRules.{is_not_running, start_recovery, restart_writer, end_smart, stop_backends, backends_gone, dead_ends_gone, children_gone}}
use Rattle.pm_state.specs.declared.action.Action.TheVariants as act

-- the phase that a state shows
abbrev pub phase_in : PmState → Bool → Phase
phase_in state.Init conns = phase.Init
phase_in state.Startup conns = phase.Starting
phase_in state.Run true = phase.Running
phase_in state.Run false = phase.Draining
phase_in state.StopBackends conns = phase.Stopping
phase_in state.WaitBackends conns = phase.Stopping
phase_in state.Shutdown conns = phase.Checkpointing
phase_in state.WaitDeadEnd conns = phase.Clearing
phase_in state.NoChildren conns = phase.Clear

abbrev pub phase_of : Machine → Phase
phase_of m = if m.ended then phase.Ended else phase_in m.state m.conns

-- the machine shows this supervisor: its phase, the crash and the request that are noted, and how many children of each
-- kind are there. A child is there once its start was reported
pub record Shows (m : Machine) (s : Supervisor) : Type 0 where
  pub phase : s.phase ≡ phase_of m
  pub crash : s.crash ≡ m.fatal
  pub request : s.request ≡ m.shutdown
  pub sessions : count_of is_session s.shared.children ≡ m.children
  pub dead_ends : count_of is_dead_end s.shared.children ≡ m.dead_ends
  pub startup : count_of is_startup_child s.shared.children ≡ one_if (not (is_not_running m.startup) && not m.startup_due)
  pub checkpointer : count_of is_checkpointer s.shared.children ≡ one_if m.checkpointer
  pub writer : count_of is_writer s.shared.children ≡ one_if m.writer

-- one event, as a caller of the machine meets it: a call, or a step of a child that the machine isn't told of
pub data Call : Type 0 where
  Accepts : (pid : ℕ) → Call
  Starts : (pid : ℕ) → (kind : Kind) → Call
  Exits : (pid : ℕ) → (kind : Kind) → (status : Status) → (was_active : Bool) → (now : ℕ) → Call
  Asks : (mode : Mode) → (now : ℕ) → Call
  Ticks : (now : ℕ) → Call
  TakesTurn : Call
  Attaches : (pid reserve : ℕ) → Call
  Touches : (pid : ℕ) → Call
  Detaches : (pid : ℕ) → Call

-- the machine after it
abbrev pub machine_after : Machine → Call → Machine
machine_after m (Accepts pid) = (step m Accepted).after
machine_after m (Starts pid kind) = (step m (Started kind)).after
machine_after m (Exits pid kind status was_active now) = (step m (Exited pid kind status was_active now)).after
machine_after m (Asks mode now) = (step m (Asked mode now)).after
machine_after m (Ticks now) = (step m (Ticked now)).after
machine_after m TakesTurn = (step m Turned).after
machine_after m _ = m

-- the supervisor's events that the machine's actions stand for. The others change nothing that is seen from outside
abbrev pub events_of : List Action → List supervisor.SupervisorEvent
events_of [] = []
events_of (act.Quit why ∷ acts) = supervisor.Notice why ∷ events_of acts
events_of (act.Reset ∷ acts) = supervisor.Reset ∷ events_of acts
events_of (act.End how ∷ acts) = supervisor.End how ∷ events_of acts
events_of (_ ∷ acts) = events_of acts

-- what the end of a child means at once: the end of redo, or of the last checkpoint
abbrev pub events_of_exit : Machine → Kind → Status → Bool → List supervisor.SupervisorEvent
events_of_exit m kind.Startup status was_active =
    if is_exit_0 status then supervisor.RedoEnded (is_none m.shutdown) ∷ [] else []
events_of_exit m kind.Checkpointer status was_active =
    if is_normal (class_of kind.Checkpointer (is_shutdown m.state) was_active status) then supervisor.Checkpointed ∷ [] else []
events_of_exit m _ status was_active = []

abbrev pub events_of_request : Option Mode → List supervisor.SupervisorEvent
events_of_request None = []
events_of_request (Some mode) = supervisor.Ask mode ∷ []

-- phases in their order
abbrev pub order_of : Phase → ℕ
order_of phase.Init = 0
order_of phase.Starting = 1
order_of phase.Running = 2
order_of phase.Draining = 3
order_of phase.Stopping = 4
order_of phase.Checkpointing = 5
order_of phase.Clearing = 6
order_of phase.Clear = 7
order_of phase.Ended = 8

-- a rule of a turn moves the phase alone, if it does
abbrev pub move_of : Phase → Phase → List supervisor.SupervisorEvent
move_of before after = if order_of before == order_of after then [] else supervisor.Move after ∷ []

abbrev pub events_of_turn : Machine → List supervisor.SupervisorEvent
events_of_turn m =
    let starting = (start_recovery m).after in
    let serving = (end_smart (restart_writer starting).after).after in
    let stopping = (backends_gone (stop_backends serving).after).after in
    let clearing = (dead_ends_gone stopping).after in
    move_of (phase_of m) (phase_of starting)
    ++ (move_of (phase_of starting) (phase_of serving)
    ++ (move_of (phase_of serving) (phase_of stopping)
    ++ (move_of (phase_of stopping) (phase_of clearing)
    ++ events_of (children_gone clearing).acts)))

-- the supervisor's events in a call, in their order
abbrev pub events_of_call : Machine → Call → List supervisor.SupervisorEvent
events_of_call m (Accepts pid) = supervisor.Accept pid (decide_of (view_of m)) ∷ []
events_of_call m (Starts pid kind) = supervisor.Start pid kind ∷ []
events_of_call m (Exits pid kind status was_active now) =
    supervisor.Exit pid kind status was_active
    ∷ (events_of_exit m kind status was_active ++ events_of (step m (Exited pid kind status was_active now)).acts)
events_of_call m (Asks mode now) =
    events_of_request (strengthen_of m.shutdown mode) ++ events_of (step m (Asked mode now)).acts
events_of_call m (Ticks now) = events_of (step m (Ticked now)).acts
events_of_call m TakesTurn = events_of_turn m
events_of_call m (Attaches pid reserve) = supervisor.Attach pid reserve ∷ []
events_of_call m (Touches pid) = supervisor.Touch pid ∷ []
events_of_call m (Detaches pid) = supervisor.Detach pid ∷ []

-- where a call may be made: its own conditions, with pids that rise and an end of a child that is there; and where a child
-- may take a step
abbrev pub IsFit : Limits → Machine → Trace → Call → Type 0
IsFit limits m h (Accepts pid) = MayAccept m × IsReady m × (h.now.shared.last_pid < pid)
IsFit limits m h (Starts pid kind) = (m.ended ≡ false) × IsDue m kind × (h.now.shared.last_pid < pid)
IsFit limits m h (Exits pid kind status was_active now) =
    IsReady m × IsSomeAnd (child_of pid h.now.shared.children) (λ c. c.kind ≡ kind)
IsFit limits m h (Asks mode now) = IsReady m
IsFit limits m h (Ticks now) = IsReady m
IsFit limits m h TakesTurn = IsReady m
IsFit limits m h (Attaches pid reserve) =
    (m.ended ≡ false) × IsReserve limits.reserved reserve × SharedAllows limits h.past h.now.shared (supervisor.Attach pid reserve)
IsFit limits m h (Touches pid) = (m.ended ≡ false) × SharedAllows limits h.past h.now.shared (supervisor.Touch pid)
IsFit limits m h (Detaches pid) = (m.ended ≡ false) × SharedAllows limits h.past h.now.shared (supervisor.Detach pid)

-- each call of the list is made where it may be
abbrev pub AreFit : Limits → Machine → Trace → List Call → Type 0
AreFit limits m h [] = Unit {0}
AreFit limits m h (call ∷ calls) =
    IsFit limits m h call × AreFit limits (machine_after m call) (all_happened h (events_of_call m call)) calls

-- the machine after all of them
abbrev pub machine_at_end : Machine → List Call → Machine
machine_at_end m [] = m
machine_at_end m (call ∷ calls) = machine_at_end (machine_after m call) calls

-- the supervisor's events in all of them
abbrev pub events_in : Machine → List Call → List supervisor.SupervisorEvent
events_in m [] = []
events_in m (call ∷ calls) = events_of_call m call ++ events_in (machine_after m call) calls
