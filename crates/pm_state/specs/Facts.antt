-- Facts that hold of the machine in every state that it can reach, beside what it shows.
use Rattle.std.specs.Prelude.{◌≡◌, Bool, true, false, not, ◌==◌, ◌||◌, Option, Some, None, is_some, is_none}
use Rattle.pm_supervisor.specs.{pm_admit.{declared.PmState.PmState, Admission.is_startup}, declared.{Reason.Reason, Limits.Limits}, pm_modes.Strength.is_immediate, Supervisor.{Shared, Supervisor}, Steps.Trace, Invariant.IsWell}
use Rattle.pm_supervisor.specs.pm_admit.declared.PmState.TheVariants as state
use Rattle.pm_supervisor.specs.declared.Reason.TheVariants as reason
use Rattle.pm_state.specs.{declared.machine.{StartupStatus.StartupStatus, Machine.Machine}, Exits.is_shutdown, TurnRules.is_not_running, Shows.Shows}
use Rattle.pm_state.specs.declared.machine.StartupStatus.TheVariants as startup

abbrev pub is_crash_reason : Option Reason → Bool
is_crash_reason (Some reason.Crash) = true
is_crash_reason _ = false

abbrev pub is_stop_reason : Option Reason → Bool
is_stop_reason (Some reason.Stop) = true
is_stop_reason _ = false

-- while a startup child is there, it is alone but for children that refuse a connection
abbrev pub IsAlone : StartupStatus → Machine → Type 0
IsAlone startup.NotRunning m = Unit {0}
IsAlone _ m = (m.children ≡ 0) × (m.checkpointer ≡ false) × (m.writer ≡ false)

-- it was told to end at once exactly where all were
abbrev pub IsTold : StartupStatus → Option Reason → Type 0
IsTold startup.NotRunning noticed = Unit {0}
IsTold startup.Running noticed = noticed ≡ None
IsTold startup.Signalled noticed = is_some noticed ≡ true

pub record NothingDue (m : Machine) : Type 0 where
  pub startup : m.startup_due ≡ false
  pub checkpointer : m.checkpointer_due ≡ false
  pub writer : m.writer_due ≡ false

pub record NoneIsThere (m : Machine) : Type 0 where
  pub startup : m.startup ≡ startup.NotRunning
  pub children : m.children ≡ 0
  pub dead_ends : m.dead_ends ≡ 0
  pub checkpointer : m.checkpointer ≡ false
  pub writer : m.writer ≡ false

abbrev pub is_init : PmState → Bool
is_init state.Init = true
is_init _ = false

-- no child is there but those that refuse a connection
pub record OnlyDeadEnds (m : Machine) : Type 0 where
  pub startup : m.startup ≡ startup.NotRunning
  pub children : m.children ≡ 0
  pub checkpointer : m.checkpointer ≡ false
  pub writer : m.writer ≡ false

-- a shutdown is under way that isn't an immediate one
pub record IsSmartOrFast (m : Machine) : Type 0 where
  pub asked : is_some m.shutdown ≡ true
  pub not_immediate : is_immediate m.shutdown ≡ false

-- what holds in each state
abbrev pub HoldsIn : PmState → Machine → Option Reason → Bool → Type 0
HoldsIn state.Init m noticed is_open =
    NoneIsThere m × (noticed ≡ None) × NothingDue m × (m.fatal ≡ false) × (m.abort_at ≡ None) × (is_open ≡ false)
HoldsIn state.Startup m noticed is_open =
    (m.checkpointer_due ≡ false) × (m.writer_due ≡ false) × (m.children ≡ 0) × (m.checkpointer ≡ false) × (m.writer ≡ false)
    × (m.startup_due ≡ true → m.startup ≡ startup.Running)
HoldsIn state.Run m noticed is_open =
    (m.startup ≡ startup.NotRunning) × (m.conns ≡ is_none m.shutdown) × (m.startup_due ≡ false)
    × (m.checkpointer_due ≡ true → (m.conns ≡ true) × (m.checkpointer ≡ false))
    × (m.writer_due ≡ true → (m.conns ≡ true) × (m.writer ≡ false))
    × (m.fatal ≡ false) × (m.abort_at ≡ None) × (is_open ≡ true) × (is_immediate m.shutdown ≡ false)
HoldsIn state.StopBackends m noticed is_open = IsSmartOrFast m × NothingDue m
HoldsIn state.WaitBackends m noticed is_open = (is_some m.shutdown || m.fatal ≡ true) × NothingDue m
HoldsIn state.Shutdown m noticed is_open =
    IsSmartOrFast m × (m.fatal ≡ false) × (m.startup ≡ startup.NotRunning) × (m.children ≡ 0) × (m.writer ≡ false)
    × (m.startup_due ≡ false) × (m.writer_due ≡ false) × (m.checkpointer_due ≡ true → m.checkpointer ≡ false)
HoldsIn state.WaitDeadEnd m noticed is_open = (is_some m.shutdown || m.fatal ≡ true) × NothingDue m × OnlyDeadEnds m
HoldsIn state.NoChildren m noticed is_open = (is_some m.shutdown || m.fatal ≡ true) × NothingDue m × NoneIsThere m

-- a startup child with no request to shut down is there in state Startup alone
abbrev pub starts_in_startup : Machine → Bool
starts_in_startup m = is_not_running m.startup || is_some m.shutdown || is_startup m.state

-- in state Startup the startup child is there, unless the server has ended by its failure
abbrev pub startup_is_there : Machine → Bool
startup_is_there m = not (is_startup m.state) || m.ended || not (is_not_running m.startup)

-- children are to be killed only after a crash or an immediate request
abbrev pub aborts_with_cause : Machine → Bool
aborts_with_cause m = is_none m.abort_at || m.fatal || is_immediate m.shutdown

-- in an open generation no startup child is there
abbrev pub open_without_startup : Machine → Shared → Bool
open_without_startup m s = not s.is_open || is_not_running m.startup

-- before a generation is open no session is there
abbrev pub closed_without_sessions : Machine → Shared → Bool
closed_without_sessions m s = s.is_open || (m.children == 0)

-- a crash in an open generation was noticed
abbrev pub noticed_while_open : Machine → Shared → Bool
noticed_while_open m s = not s.is_open || not m.fatal || is_some s.noticed

-- with no crash noted, the generation is open or the first
abbrev pub recovers_from_crash : Machine → Shared → Bool
recovers_from_crash m s = m.fatal || s.is_open || (s.generation == 1)

-- while the last checkpoint is written its checkpointer is there, or is to be started
abbrev pub has_checkpointer : Machine → Bool
has_checkpointer m = not (is_shutdown m.state) || m.checkpointer || m.checkpointer_due

pub record Facts (limits : Limits) (m : Machine) (s : Supervisor) : Type 0 where
  pub same_limits : m.limits ≡ limits
  pub shows : Shows m s
  pub in_state : HoldsIn m.state m s.shared.noticed s.shared.is_open
  pub alone : IsAlone m.startup m
  pub told : IsTold m.startup s.shared.noticed
  -- an immediate request is told of, and nothing else is told as one
  pub stop : is_stop_reason s.shared.noticed ≡ is_immediate m.shutdown
  pub crash : not (is_crash_reason s.shared.noticed) || m.fatal ≡ true
  pub starts : starts_in_startup m ≡ true
  pub there : startup_is_there m ≡ true
  pub aborts : aborts_with_cause m ≡ true
  pub opened : open_without_startup m s.shared ≡ true
  pub closed : closed_without_sessions m s.shared ≡ true
  pub noticed : noticed_while_open m s.shared ≡ true
  pub recovers : recovers_from_crash m s.shared ≡ true
  pub checkpoints : has_checkpointer m ≡ true

-- all that holds at each moment: of the machine, and of the supervisor that it shows
pub record Holds (limits : Limits) (m : Machine) (h : Trace) : Type 0 where
  pub facts : Facts limits m h.now
  pub well : IsWell limits h
