-- The end of the startup child is a run of the supervisor.
use Rattle.std.{proofs.Common.{◌≡◌, ℕ, ◌+◌, Bool, true, false, not, ◌&&◌, List, ◌++◌, refl, arith}, specs.Prelude.IsSomeAnd}
use Rattle.pm_supervisor.{specs.{pm_exit.{declared.child.Status.Status, Ends.is_exit_0}, declared.Limits.Limits, Children.{Child, is_session, is_startup_child, is_checkpointer, is_writer, is_dead_end, child_of, without, count_of, attached_sessions, one_if}, Supervisor.Supervisor, Steps.{Trace, IsRun, all_happened, happened, after, redo_has_ended}}, proofs.CountLaws.none_counted}
use Rattle.pm_supervisor.specs.pm_exit.declared.child.Kind.TheVariants as kind
use Rattle.pm_supervisor.specs.Steps as supervisor
use Rattle.pm_state.{specs.{declared.machine.{Machine.Machine, Exit.Exit}, Exits.{crash_rule, startup_exited}, Machine.IsReady, TurnRules.is_not_running, Shows.{events_of, events_of_exit}, Facts.Facts}, proofs.Counts.{count-without, none_attached}}

-- the supervisor just after the end of its startup child
pub record HasLeft (m : Machine) (before s : Supervisor) (status : Status) : Type 0 where
  pub phase : s.phase ≡ (after before (supervisor.Exit 0 kind.Startup status false)).phase
  pub crash : s.crash ≡ (after before (supervisor.Exit 0 kind.Startup status false)).crash
  pub request : s.request ≡ m.shutdown
  pub noticed : s.shared.noticed ≡ before.shared.noticed
  pub is_open : s.shared.is_open ≡ before.shared.is_open
  pub generation : s.shared.generation ≡ before.shared.generation
  pub sessions : count_of is_session s.shared.children ≡ 0
  pub attached : attached_sessions s.shared.children ≡ 0
  pub dead_ends : count_of is_dead_end s.shared.children ≡ m.dead_ends
  pub startup : count_of is_startup_child s.shared.children ≡ 0
  pub checkpointer : count_of is_checkpointer s.shared.children ≡ 0
  pub writer : count_of is_writer s.shared.children ≡ 0
  pub was_there : is_not_running m.startup ≡ false

startup-there : (limits : Limits) (m : Machine) (s : Supervisor) (n : ℕ) → count_of is_startup_child s.shared.children ≡ 1 + n → Facts limits m s
    → is_not_running m.startup ≡ false
startup-there limits m s n some facts = grind arith

startup-left : (a n : ℕ) (b c : Bool) → a ≡ 1 + n → a ≡ one_if (not b && not c) → n ≡ 0
startup-left a n true c p q = grind arith
startup-left a n false true p q = grind arith
startup-left a n false false p q = grind arith

alone-there : (limits : Limits) (m : Machine) (s : Supervisor) → is_not_running m.startup ≡ false → Facts limits m s
    → (m.children ≡ 0) × (m.checkpointer ≡ false) × (m.writer ≡ false)
alone-there limits m s there facts = grind arith

pub has_left : (limits : Limits) (m : Machine) (h : Trace) (pid : ℕ) (status : Status) (was_active : Bool) → Facts limits m h.now
    → IsSomeAnd (child_of pid h.now.shared.children) (λ c. c.kind ≡ kind.Startup)
    → HasLeft m h.now (after h.now (supervisor.Exit pid kind.Startup status was_active)) status
has_left limits m h pid status was_active facts there =
    let cs : List Child = h.now.shared.children in
    let some : count_of is_startup_child cs ≡ 1 + count_of is_startup_child (without pid cs) = count-without is_startup_child pid kind.Startup cs there in
    let was_there : is_not_running m.startup ≡ false = startup-there limits m h.now (count_of is_startup_child (without pid cs)) some facts in
    let alone : (m.children ≡ 0) × (m.checkpointer ≡ false) × (m.writer ≡ false) = alone-there limits m h.now was_there facts in
    let sessions : count_of is_session (without pid cs) ≡ 0 = omega (arith, count-without is_session pid kind.Startup cs there, facts.shows.sessions, alone.0) in
    record {
      phase = refl;
      crash = refl;
      request = facts.shows.request;
      noticed = refl;
      is_open = refl;
      generation = refl;
      sessions = sessions;
      attached = none_attached (without pid cs) sessions;
      dead_ends = omega (arith, count-without is_dead_end pid kind.Startup cs there, facts.shows.dead_ends);
      startup = startup-left (count_of is_startup_child cs) (count_of is_startup_child (without pid cs)) (is_not_running m.startup) m.startup_due some facts.shows.startup;
      checkpointer = omega (arith, count-without is_checkpointer pid kind.Startup cs there, none_counted (count_of is_checkpointer cs) m.checkpointer facts.shows.checkpointer alone.1);
      writer = omega (arith, count-without is_writer pid kind.Startup cs there, none_counted (count_of is_writer cs) m.writer facts.shows.writer alone.2);
      was_there = was_there;
    }

-- the lines of the table, one by one

pub redo-run : (limits : Limits) (m : Machine) (h : Trace) (pid : ℕ) (status : Status) (was_active : Bool) (exit : Exit) → IsReady m → Facts limits m h.now
    → redo_has_ended h.past ≡ false
    → HasLeft m h.now (after h.now (supervisor.Exit pid kind.Startup status was_active)) status
    → exit.status ≡ status → is_exit_0 status ≡ true
    → IsRun limits (happened h (supervisor.Exit pid kind.Startup status was_active))
    (events_of_exit m kind.Startup status was_active ++ events_of (startup_exited m exit).acts)
unfolding startup_exited
redo-run limits m h pid status was_active exit ready facts not_yet left same good = grind arith

pub redo-facts : (limits : Limits) (m : Machine) (h : Trace) (pid : ℕ) (status : Status) (was_active : Bool) (exit : Exit) → IsReady m → Facts limits m h.now
    → HasLeft m h.now (after h.now (supervisor.Exit pid kind.Startup status was_active)) status
    → exit.status ≡ status → is_exit_0 status ≡ true
    → Facts limits (startup_exited m exit).after
    (all_happened (happened h (supervisor.Exit pid kind.Startup status was_active))
    (events_of_exit m kind.Startup status was_active ++ events_of (startup_exited m exit).acts)).now
unfolding startup_exited
redo-facts limits m h pid status was_active exit ready facts left same good =
    record {
      same_limits = grind arith;
      shows = record {
        phase = grind arith;
        crash = grind arith;
        request = grind arith;
        sessions = grind arith;
        dead_ends = grind arith;
        startup = grind arith;
        checkpointer = grind arith;
        writer = grind arith;
      };
      in_state = grind arith;
      alone = grind arith;
      told = grind arith;
      stop = grind arith;
      crash = grind arith;
      starts = grind arith;
      there = grind arith;
      aborts = grind arith;
      opened = grind arith;
      closed = grind arith;
      noticed = grind arith;
      recovers = grind arith;
      checkpoints = grind arith;
    }

pub failed-run : (limits : Limits) (m : Machine) (h : Trace) (pid : ℕ) (status : Status) (was_active : Bool) (exit : Exit) → IsReady m → Facts limits m h.now
    → HasLeft m h.now (after h.now (supervisor.Exit pid kind.Startup status was_active)) status
    → exit.status ≡ status → is_exit_0 status ≡ false
    → IsRun limits (happened h (supervisor.Exit pid kind.Startup status was_active))
    (events_of_exit m kind.Startup status was_active ++ events_of (startup_exited m exit).acts)
unfolding startup_exited crash_rule
failed-run limits m h pid status was_active exit ready facts left same bad = grind arith

pub failed-facts : (limits : Limits) (m : Machine) (h : Trace) (pid : ℕ) (status : Status) (was_active : Bool) (exit : Exit) → IsReady m → Facts limits m h.now
    → HasLeft m h.now (after h.now (supervisor.Exit pid kind.Startup status was_active)) status
    → exit.status ≡ status → is_exit_0 status ≡ false
    → Facts limits (startup_exited m exit).after
    (all_happened (happened h (supervisor.Exit pid kind.Startup status was_active))
    (events_of_exit m kind.Startup status was_active ++ events_of (startup_exited m exit).acts)).now
unfolding startup_exited crash_rule
failed-facts limits m h pid status was_active exit ready facts left same bad =
    record {
      same_limits = grind arith;
      shows = record {
        phase = grind arith;
        crash = grind arith;
        request = grind arith;
        sessions = grind arith;
        dead_ends = grind arith;
        startup = grind arith;
        checkpointer = grind arith;
        writer = grind arith;
      };
      in_state = grind arith;
      alone = grind arith;
      told = grind arith;
      stop = grind arith;
      crash = grind arith;
      starts = grind arith;
      there = grind arith;
      aborts = grind arith;
      opened = grind arith;
      closed = grind arith;
      noticed = grind arith;
      recovers = grind arith;
      checkpoints = grind arith;
    }
