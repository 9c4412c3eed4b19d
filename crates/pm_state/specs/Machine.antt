-- The state machine of the supervisor, after PostgreSQL's pmState, as a function of what it remembers and of what
-- happened. The manual: 19.5 "Shutting Down the Server", and 20.14 "Error Handling" for the restart after a crash.
use Rattle.std.specs.Prelude.{◌≡◌, ◌≢◌, ℕ, ◌+◌, ◌*◌, ◌<◌, ◌≤◌, Bool, true, false, [], None, is_some}
use Rattle.pm_supervisor.specs.{pm_exit.declared.child.{Status.Status, Kind.Kind}, pm_modes.{declared.Mode.Mode, Strength.strengthen_of}, pm_admit.{declared.{PmState.PmState, Cac.Cac, View.View}, Admission.decide_of}, declared.Limits.Limits, Limits.IsWithinLimits}
use Rattle.pm_supervisor.specs.pm_exit.declared.child.Kind.TheVariants as kind
use Rattle.pm_supervisor.specs.pm_admit.declared.PmState.TheVariants as state
use Rattle.pm_supervisor.specs.pm_admit.declared.Cac.TheVariants as cac
use Rattle.pm_state.specs.declared.machine.StartupStatus.TheVariants as startup
use Rattle.pm_state.specs.{declared.machine.Machine.Machine, Transition.{Transition, transition}, Exits.exited_by, Requests.{asked_with, ticked_at}, TurnRules.turned_of}

-- what the decision on a connection looks at
abbrev pub view_of : Machine → View
view_of m = record {
  state = m.state;
  shutdown = is_some m.shutdown;
  fatal = m.fatal;
  conns = m.conns;
  children = m.children;
  limit = 2 * (m.limits.max_connections + m.limits.max_worker_processes);
}

-- a connection is accepted, by the decision on it
abbrev pub accepted_as : Cac → Machine → Machine
accepted_as cac.Ok m = record m { children = m.children + 1 }
accepted_as _ m = record m { dead_ends = m.dead_ends + 1 }

-- a start that was given is reported
abbrev pub started_as : Kind → Machine → Machine
started_as kind.Startup m = record m { startup_due = false }
started_as kind.Checkpointer m = record m { checkpointer_due = false; checkpointer = true }
started_as kind.Writer m = record m { writer_due = false; writer = true }
started_as _ m = m

-- what can happen
pub data MachineEvent : Type 0 where
  Accepted : MachineEvent
  Started : (kind : Kind) → MachineEvent
  Exited : (pid : ℕ) → (kind : Kind) → (status : Status) → (was_active : Bool) → (now : ℕ) → MachineEvent
  Asked : (mode : Mode) → (now : ℕ) → MachineEvent
  Ticked : (now : ℕ) → MachineEvent
  Turned : MachineEvent

-- the machine: what an event leaves, and what is to be done, in order
abbrev pub step : Machine → MachineEvent → Transition
step m Accepted = transition [] (accepted_as (decide_of (view_of m)) m)
step m (Started kind) = transition [] (started_as kind m)
step m (Exited pid kind status was_active now) =
    exited_by kind m (record { pid = pid; kind = kind; status = status; now = now }) was_active
step m (Asked mode now) = asked_with (strengthen_of m.shutdown mode) m now
step m (Ticked now) = ticked_at m.abort_at m now
step m Turned = turned_of m

-- the machine before anything happened
abbrev pub begun : Limits → Machine
begun limits = record {
  limits = limits;
  state = state.Init;
  shutdown = None;
  fatal = false;
  conns = false;
  startup = startup.NotRunning;
  children = 0;
  dead_ends = 0;
  checkpointer = false;
  writer = false;
  abort_at = None;
  ended = false;
  startup_due = false;
  checkpointer_due = false;
  writer_due = false;
}

-- no end was given, and no start that was given is unreported
pub record IsReady (m : Machine) : Type 0 where
  pub goes_on : m.ended ≡ false
  pub startup_reported : m.startup_due ≡ false
  pub checkpointer_reported : m.checkpointer_due ≡ false
  pub writer_reported : m.writer_due ≡ false

-- such a child is counted
abbrev pub IsCounted : Machine → Kind → Type 0
IsCounted m kind.Startup = m.startup ≢ startup.NotRunning
IsCounted m kind.Checkpointer = m.checkpointer ≡ true
IsCounted m kind.Writer = m.writer ≡ true
IsCounted m kind.Worker = 0 < m.children
IsCounted m kind.Backend = 0 < m.children
IsCounted m kind.DeadEnd = 0 < m.dead_ends

-- a start of that kind was given and isn't reported yet
abbrev pub IsDue : Machine → Kind → Type 0
IsDue m kind.Startup = m.startup_due ≡ true
IsDue m kind.Checkpointer = m.checkpointer_due ≡ true
IsDue m kind.Writer = m.writer_due ≡ true
IsDue m _ = ⊥

-- a connection may be accepted in this state
abbrev pub accepts_in : PmState → Bool
accepts_in state.Init = false
accepts_in state.WaitDeadEnd = false
accepts_in state.NoChildren = false
accepts_in _ = true

-- a connection may be accepted: at most four are refused at one time
abbrev pub MayAccept : Machine → Type 0
MayAccept m = (m.ended ≡ false) × (accepts_in m.state ≡ true) × (m.dead_ends < 4)

-- the counts stay within what the limits and the accepting of connections leave
pub record StaysWithin (m : Machine) : Type 0 where
  pub limits : IsWithinLimits m.limits
  pub children : m.children ≤ 2 * (m.limits.max_connections + m.limits.max_worker_processes)
  pub dead_ends : m.dead_ends ≤ 4

-- no count has grown
pub record IsNotGrown (old new : Machine) : Type 0 where
  pub limits : new.limits ≡ old.limits
  pub children : new.children ≤ old.children
  pub dead_ends : new.dead_ends ≤ old.dead_ends
