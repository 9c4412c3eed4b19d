-- The facts of the machine in words: each follows from what holds at every moment.
use Rattle.std.specs.Prelude.{◌≡◌, Bool, true, false, ◌||◌, Some, None, is_some, is_none}
use Rattle.pm_supervisor.specs.{pm_modes.Strength.is_immediate, pm_admit.declared.PmState.PmState, Supervisor.Shared}
use Rattle.pm_supervisor.specs.pm_admit.declared.PmState.TheVariants as state
use Rattle.pm_supervisor.specs.declared.Reason.TheVariants as reason
use Rattle.pm_state.specs.{declared.machine.{StartupStatus.StartupStatus, Machine.Machine}, TurnRules.is_not_running, Facts.{NoneIsThere, OnlyDeadEnds, IsSmartOrFast}}
use Rattle.pm_state.specs.declared.machine.StartupStatus.TheVariants as startup

abbrev pub is_signalled : StartupStatus → Bool
is_signalled startup.Signalled = true
is_signalled _ = false

-- children are waited for, or none is left
abbrev pub is_waiting : PmState → Bool
is_waiting state.WaitBackends = true
is_waiting state.WaitDeadEnd = true
is_waiting state.NoChildren = true
is_waiting _ = false

-- connections are served, or sessions end by themselves
pub record RunsWell (m : Machine) : Type 0 where
  pub startup : m.startup ≡ startup.NotRunning
  pub no_crash : m.fatal ≡ false
  pub none_told : m.abort_at ≡ None
  pub connections : m.conns ≡ is_none m.shutdown

-- the last checkpoint is written by the checkpointer alone
pub record OnlyCheckpoints (m : Machine) : Type 0 where
  pub request : IsSmartOrFast m
  pub no_crash : m.fatal ≡ false
  pub startup : m.startup ≡ startup.NotRunning
  pub children : m.children ≡ 0
  pub writer : m.writer ≡ false
  pub checkpointer : m.checkpointer || m.checkpointer_due ≡ true

pub record Known (m : Machine) (s : Shared) : Type 0 where
  pub startup_in_startup : is_not_running m.startup ≡ false → m.shutdown ≡ None → m.state ≡ state.Startup
  pub in_startup : m.state ≡ state.Startup → m.ended ≡ false → is_not_running m.startup ≡ false
  pub in_run : m.state ≡ state.Run → RunsWell m
  pub startup_alone :
      is_not_running m.startup ≡ false → (m.children ≡ 0) × (m.checkpointer ≡ false) × (m.writer ≡ false)
  pub closed : s.is_open ≡ false → m.children ≡ 0
  pub opened : s.is_open ≡ true → m.startup ≡ startup.NotRunning
  pub open_crash : s.is_open ≡ true → m.fatal ≡ true → is_some s.noticed ≡ true
  pub in_wait_dead_end : m.state ≡ state.WaitDeadEnd → OnlyDeadEnds m
  pub in_no_children : m.state ≡ state.NoChildren → NoneIsThere m
  pub waits_for_crash : is_waiting m.state ≡ true → m.shutdown ≡ None → m.fatal ≡ true
  pub causes :
      is_some m.abort_at || is_signalled m.startup || is_some s.noticed ≡ true
      → m.fatal || is_immediate m.shutdown ≡ true
  pub in_shutdown : m.state ≡ state.Shutdown → OnlyCheckpoints m
  pub in_stop_backends : m.state ≡ state.StopBackends → IsSmartOrFast m
  pub told_stop : s.noticed ≡ Some reason.Stop → is_immediate m.shutdown ≡ true
  pub stop_is_told : is_immediate m.shutdown ≡ true → s.noticed ≡ Some reason.Stop
  pub in_init : m.state ≡ state.Init → NoneIsThere m
