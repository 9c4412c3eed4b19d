-- The facts in words follow from what holds at every moment.
use Rattle.std.{proofs.Common.{◌≡◌, true, false, ◌||◌, None, arith}, specs.Prelude.is_some}
use Rattle.pm_supervisor.specs.{pm_modes.Strength.is_immediate, declared.Limits.Limits, Supervisor.Supervisor}
use Rattle.pm_supervisor.specs.pm_admit.declared.PmState.TheVariants as state
use Rattle.pm_state.specs.{declared.machine.Machine.Machine, TurnRules.is_not_running, Facts.{Facts, OnlyDeadEnds, NoneIsThere, IsSmartOrFast}, Known.{Known, RunsWell, OnlyCheckpoints, is_signalled, is_waiting}}

startup_in_startup : (limits : Limits) (m : Machine) (s : Supervisor) → Facts limits m s → is_not_running m.startup ≡ false → m.shutdown ≡ None → m.state ≡ state.Startup
startup_in_startup limits m s facts there none = grind arith

in_startup : (limits : Limits) (m : Machine) (s : Supervisor) → Facts limits m s → m.state ≡ state.Startup → m.ended ≡ false → is_not_running m.startup ≡ false
in_startup limits m s facts is on = grind arith

in_run : (limits : Limits) (m : Machine) (s : Supervisor) → Facts limits m s → m.state ≡ state.Run → RunsWell m
in_run limits m s facts is = grind arith

startup_alone : (limits : Limits) (m : Machine) (s : Supervisor) → Facts limits m s → is_not_running m.startup ≡ false
    → (m.children ≡ 0) × (m.checkpointer ≡ false) × (m.writer ≡ false)
startup_alone limits m s facts there = grind arith

in_wait_dead_end : (limits : Limits) (m : Machine) (s : Supervisor) → Facts limits m s → m.state ≡ state.WaitDeadEnd → OnlyDeadEnds m
in_wait_dead_end limits m s facts is = grind arith

in_no_children : (limits : Limits) (m : Machine) (s : Supervisor) → Facts limits m s → m.state ≡ state.NoChildren → NoneIsThere m
in_no_children limits m s facts is = grind arith

waits_for_crash : (limits : Limits) (m : Machine) (s : Supervisor) → Facts limits m s → is_waiting m.state ≡ true → m.shutdown ≡ None → m.fatal ≡ true
waits_for_crash limits m s facts is none = grind arith

causes : (limits : Limits) (m : Machine) (s : Supervisor) → Facts limits m s
    → is_some m.abort_at || is_signalled m.startup || is_some s.shared.noticed ≡ true → m.fatal || is_immediate m.shutdown ≡ true
causes limits m s facts some = grind arith

in_shutdown : (limits : Limits) (m : Machine) (s : Supervisor) → Facts limits m s → m.state ≡ state.Shutdown → OnlyCheckpoints m
in_shutdown limits m s facts is = grind arith

in_stop_backends : (limits : Limits) (m : Machine) (s : Supervisor) → Facts limits m s → m.state ≡ state.StopBackends → IsSmartOrFast m
in_stop_backends limits m s facts is = grind arith

in_init : (limits : Limits) (m : Machine) (s : Supervisor) → Facts limits m s → m.state ≡ state.Init → NoneIsThere m
in_init limits m s facts is = grind arith

pub known : (limits : Limits) (m : Machine) (s : Supervisor) → Facts limits m s → Known m s.shared
known limits m s facts =
    record {
      startup_in_startup = startup_in_startup limits m s facts;
      in_startup = in_startup limits m s facts;
      in_run = in_run limits m s facts;
      startup_alone = startup_alone limits m s facts;
      closed = λ is. grind (arith, facts.closed);
      opened = λ is. grind (arith, facts.opened);
      open_crash = λ is fatal. grind (arith, facts.noticed);
      in_wait_dead_end = in_wait_dead_end limits m s facts;
      in_no_children = in_no_children limits m s facts;
      waits_for_crash = waits_for_crash limits m s facts;
      causes = causes limits m s facts;
      in_shutdown = in_shutdown limits m s facts;
      in_stop_backends = in_stop_backends limits m s facts;
      told_stop = λ is. grind (arith, facts.stop);
      stop_is_told = λ is. grind (arith, facts.stop);
      in_init = in_init limits m s facts;
    }
