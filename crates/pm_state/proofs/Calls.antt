-- Each call is a run of the supervisor, and so is each list of them.
use Rattle.std.{proofs.Common.{◌≡◌, ℕ, ◌+◌, Bool, true, false, not, List, [], ◌∷◌, ◌++◌, Option, Some, None, refl, arith, cond, ap, sym, subst, ◌∙◌}, specs.Prelude.IsSomeAnd}
use Rattle.pm_supervisor.{specs.{pm_exit.{declared.child.{Status.Status, Kind.Kind, Class.Class}, Ends.{class_of, is_exit_0}}, pm_modes.{declared.Mode.Mode, Strength.strengthen_of}, pm_admit.{declared.Cac.Cac, Admission.decide_of}, declared.Limits.Limits, Children.{Child, is_session, is_startup_child, is_checkpointer, is_writer, is_dead_end, child_of, without, marked, count_of}, Supervisor.Supervisor, Shared.with_child, Steps.{SupervisorEvent, Trace, IsRun, MayHappen, SharedAllows, all_happened, happened, after, is_normal, empty_trace, admission, kind_for, redo_has_ended}, Invariant.IsWell, Laws.{StaysWell, TakesChildStepsBetween}, Between.{without_child_steps, ChildStepsMayHappen, all_detached, detached, with_children, IsAlike}}, proofs.RunLaws.{IsRun-append, all_happened-append, count-marked}}
use Rattle.pm_supervisor.specs.pm_exit.declared.child.Kind.TheVariants as kind
use Rattle.pm_supervisor.specs.pm_exit.declared.child.Class.TheVariants as class
use Rattle.pm_supervisor.specs.pm_modes.declared.Mode.TheVariants as mode
use Rattle.pm_supervisor.specs.pm_admit.declared.Cac.TheVariants as cac
use Rattle.pm_supervisor.specs.Steps as supervisor
use Rattle.pm_state.{specs.{declared.machine.{Machine.Machine, Exit.Exit}, Exits.{unless_normal, less_one, checkpointer_exited, startup_exited, is_shutdown}, Machine.{view_of, accepted_as, started_as, begun, IsReady, IsCounted, IsDue, MayAccept}, Transition.Transition, Requests.{asked_with, ticked_at}, Shows.{Call, Accepts, Starts, Exits, Asks, Ticks, TakesTurn, Attaches, Touches, Detaches, events_of, events_of_exit, events_of_request, events_of_call, machine_after, machine_at_end, events_in, IsFit, AreFit}, Facts.{Facts, has_checkpointer}}, proofs.{Turns.{Leads, turned}, Counts.count-without, Exits.{Leaves, calm, crash-run, crash-facts, less_one-leaves, less_one-checkpoints, Less, less}, Startups.{has_left, redo-run, redo-facts, failed-run, failed-facts}}}

-- an event, and then a run
pub Leads-first : (limits : Limits) (h : Trace) (e : SupervisorEvent) (events : List SupervisorEvent) (m : Machine) → MayHappen limits h e
    → Leads limits (happened h e) events m → Leads limits h (e ∷ events) m
Leads-first limits h e events m may rest = record { run = (may, rest.run); facts = rest.facts }

unless_normal-leads : (cls : Class) (limits : Limits) (m : Machine) (h : Trace) (exit : Exit) → has_checkpointer m ≡ true
    → Leaves limits m h.now (not (is_normal cls))
    → Leads limits h (events_of (unless_normal cls m exit).acts) (unless_normal cls m exit).after
unless_normal-leads class.Normal limits m h exit checkpoints leaves = record { run = tt; facts = calm limits m h.now leaves checkpoints }
unless_normal-leads class.Crash limits m h exit checkpoints leaves =
    record { run = crash-run limits m h exit leaves; facts = crash-facts limits m h exit leaves }
unless_normal-leads class.StartupFailed limits m h exit checkpoints leaves =
    record { run = crash-run limits m h exit leaves; facts = crash-facts limits m h exit leaves }

startup-leads : (limits : Limits) (m : Machine) (h : Trace) (pid : ℕ) (status : Status) (was_active : Bool) (exit : Exit) → IsReady m → Facts limits m h.now
    → redo_has_ended h.past ≡ false
    → IsSomeAnd (child_of pid h.now.shared.children) (λ c. c.kind ≡ kind.Startup) → exit.status ≡ status
    → Leads limits (happened h (supervisor.Exit pid kind.Startup status was_active))
    (events_of_exit m kind.Startup status was_active ++ events_of (startup_exited m exit).acts) (startup_exited m exit).after
startup-leads limits m h pid status was_active exit ready facts not_yet there same =
    let left = has_left limits m h pid status was_active facts there in
    elim (is_exit_0 status) as
    (λ v. is_exit_0 status ≡ v → Leads limits (happened h (supervisor.Exit pid kind.Startup status was_active))
    (events_of_exit m kind.Startup status was_active ++ events_of (startup_exited m exit).acts) (startup_exited m exit).after) [
      | true ↦ λ e. record {
        run = redo-run limits m h pid status was_active exit ready facts not_yet left same e;
        facts = redo-facts limits m h pid status was_active exit ready facts left same e;
      }
      | false ↦ λ e. record {
        run = failed-run limits m h pid status was_active exit ready facts left same e;
        facts = failed-facts limits m h pid status was_active exit ready facts left same e;
      }
    ]
    refl

-- the end of the checkpointer after the last checkpoint
checkpointed-run : (limits : Limits) (m : Machine) (h : Trace) (pid : ℕ) (status : Status) (was_active : Bool)
    → Leaves limits m (after h.now (supervisor.Exit pid kind.Checkpointer status was_active)) false
    → class_of kind.Checkpointer (is_shutdown m.state) was_active status ≡ class.Normal
    → IsRun limits (happened h (supervisor.Exit pid kind.Checkpointer status was_active)) (supervisor.Checkpointed ∷ [])
checkpointed-run limits m h pid status was_active leaves normal = grind arith

checkpointed-facts : (limits : Limits) (m : Machine) (h : Trace) → Leaves limits m h.now false
    → m.checkpointer ≡ false → is_shutdown m.state ≡ true
    → Facts limits (record m { state = Rattle.pm_supervisor.specs.pm_admit.declared.PmState.TheVariants.WaitDeadEnd })
    (all_happened h (supervisor.Checkpointed ∷ [])).now
checkpointed-facts limits m h leaves gone in_shutdown =
    record {
      same_limits = grind arith;
      shows = record {
        phase = grind arith;
        crash = grind arith;
        request = grind arith;
        sessions = grind arith;
        dead_ends = grind arith;
        startup = grind arith;
        checkpointer = grind arith;
        writer = grind arith;
      };
      in_state = grind arith;
      alone = grind arith;
      told = grind arith;
      stop = grind arith;
      crash = grind arith;
      starts = grind arith;
      there = grind arith;
      aborts = grind arith;
      opened = grind arith;
      closed = grind arith;
      noticed = grind arith;
      recovers = grind arith;
      checkpoints = grind arith;
    }

normal-checkpointer : (b a : Bool) (status : Status) → class_of kind.Checkpointer b a status ≡ class.Normal → b ≡ true
normal-checkpointer b a status normal = grind arith

checkpointer-leads : (cls : Class) (limits : Limits) (m : Machine) (h : Trace) (pid : ℕ) (status : Status) (was_active : Bool) (exit : Exit)
    → class_of kind.Checkpointer (is_shutdown m.state) was_active status ≡ cls → m.checkpointer ≡ false
    → Leaves limits m (after h.now (supervisor.Exit pid kind.Checkpointer status was_active)) (not (is_normal cls))
    → Leads limits (happened h (supervisor.Exit pid kind.Checkpointer status was_active))
    ((cond (is_normal cls) (supervisor.Checkpointed ∷ []) []) ++ events_of (checkpointer_exited cls m exit).acts) (checkpointer_exited cls m exit).after
checkpointer-leads class.Normal limits m h pid status was_active exit is gone leaves =
    record {
      run = checkpointed-run limits m h pid status was_active leaves is;
      facts =
          checkpointed-facts limits m (happened h (supervisor.Exit pid kind.Checkpointer status was_active)) leaves gone
          (normal-checkpointer (is_shutdown m.state) was_active status is);
    }
checkpointer-leads class.Crash limits m h pid status was_active exit is gone leaves =
    let g : Trace = happened h (supervisor.Exit pid kind.Checkpointer status was_active) in
    record { run = crash-run limits m g exit leaves; facts = crash-facts limits m g exit leaves }
checkpointer-leads class.StartupFailed limits m h pid status was_active exit is gone leaves =
    let g : Trace = happened h (supervisor.Exit pid kind.Checkpointer status was_active) in
    record { run = crash-run limits m g exit leaves; facts = crash-facts limits m g exit leaves }

going_on : (limits : Limits) (m : Machine) (s : Supervisor) → m.ended ≡ false → Facts limits m s → supervisor.is_ended s.phase ≡ false
going_on limits m s on facts = grind arith

may-exit : (limits : Limits) (m : Machine) (h : Trace) (pid : ℕ) (k : Kind) (status : Status) (was_active : Bool) (now : ℕ)
    → Facts limits m h.now → IsFit limits m h (Exits pid k status was_active now) → MayHappen limits h (supervisor.Exit pid k status was_active)
may-exit limits m h pid k status was_active now facts fit =
    record { goes_on = going_on limits m h.now fit.0.goes_on facts; rest = tt; shared = record { of_shared = fit.1; of_past = tt } }

-- a startup child that is there hasn't ended its work
unredone : (limits : Limits) (h : Trace) (pid : ℕ) → IsWell limits h → IsSomeAnd (child_of pid h.now.shared.children) (λ c. c.kind ≡ kind.Startup)
    → redo_has_ended h.past ≡ false
unredone limits h pid well there =
    let some : count_of is_startup_child h.now.shared.children ≡ 1 + count_of is_startup_child (without pid h.now.shared.children) =
    count-without is_startup_child pid kind.Startup h.now.shared.children there in
    grind (arith, some, well.startup_child)

other-leads : (limits : Limits) (m : Machine) (h : Trace) (pid : ℕ) (k : Kind) (status : Status) (was_active : Bool) (now : ℕ) → is_startup_child k ≡ false
    → is_checkpointer k ≡ false
    → Facts limits m h.now → IsFit limits m h (Exits pid k status was_active now)
    → let exit : Exit = record { pid = pid; kind = k; status = status; now = now } in
    let transition : Transition = unless_normal (class_of k (is_shutdown m.state) was_active status) (less_one k m) exit in
    Leads limits h (supervisor.Exit pid k status was_active ∷ events_of transition.acts) transition.after
other-leads limits m h pid k status was_active now other no_checkpointer facts fit =
    Leads-first limits h (supervisor.Exit pid k status was_active) _ _ (may-exit limits m h pid k status was_active now facts fit)
    (unless_normal-leads (class_of k (is_shutdown m.state) was_active status) limits (less_one k m)
    (happened h (supervisor.Exit pid k status was_active)) (record { pid = pid; kind = k; status = status; now = now })
    (less_one-checkpoints k m other no_checkpointer facts.checkpoints)
    (less_one-leaves limits m h pid k status was_active other fit.0 facts fit.1))

exit-leads : (limits : Limits) (m : Machine) (h : Trace) (pid : ℕ) (k : Kind) (status : Status) (was_active : Bool) (now : ℕ)
    → Facts limits m h.now → IsWell limits h → IsFit limits m h (Exits pid k status was_active now)
    → Leads limits h (events_of_call m (Exits pid k status was_active now)) (machine_after m (Exits pid k status was_active now))
exit-leads limits m h pid kind.Startup status was_active now facts well fit =
    Leads-first limits h (supervisor.Exit pid kind.Startup status was_active) _ _
    (may-exit limits m h pid kind.Startup status was_active now facts fit)
    (startup-leads limits m h pid status was_active (record { pid = pid; kind = kind.Startup; status = status; now = now }) fit.0 facts (unredone limits h pid well fit.1) fit.1 refl)
exit-leads limits m h pid kind.Checkpointer status was_active now facts well fit =
    Leads-first limits h (supervisor.Exit pid kind.Checkpointer status was_active) _ _
    (may-exit limits m h pid kind.Checkpointer status was_active now facts fit)
    (checkpointer-leads (class_of kind.Checkpointer (is_shutdown m.state) was_active status) limits (less_one kind.Checkpointer m) h pid status was_active
    (record { pid = pid; kind = kind.Checkpointer; status = status; now = now }) refl refl
    (less_one-leaves limits m h pid kind.Checkpointer status was_active refl fit.0 facts fit.1))
exit-leads limits m h pid kind.Writer status was_active now facts well fit =
    other-leads limits m h pid kind.Writer status was_active now refl refl facts fit
exit-leads limits m h pid kind.Worker status was_active now facts well fit =
    other-leads limits m h pid kind.Worker status was_active now refl refl facts fit
exit-leads limits m h pid kind.Backend status was_active now facts well fit =
    other-leads limits m h pid kind.Backend status was_active now refl refl facts fit
exit-leads limits m h pid kind.DeadEnd status was_active now facts well fit =
    other-leads limits m h pid kind.DeadEnd status was_active now refl refl facts fit

-- accepting

accept-may : (limits : Limits) (m : Machine) (s : Supervisor) → MayAccept m → Facts limits m s
    → supervisor.accepts s.phase ≡ true
accept-may limits m s may facts = grind arith

pub accept-decision : (limits : Limits) (m : Machine) (s : Supervisor) → MayAccept m → Facts limits m s
    → decide_of (view_of m) ≡ admission limits s
accept-decision limits m s may facts = grind arith

refused-facts : (limits : Limits) (m : Machine) (s : Supervisor) (pid : ℕ) → MayAccept m → IsReady m → Facts limits m s
    → Facts limits (record m { dead_ends = m.dead_ends + 1 }) (record s { shared = with_child pid kind.DeadEnd s.shared })
refused-facts limits m s pid may ready facts =
    record {
      same_limits = grind arith;
      shows = record {
        phase = grind arith;
        crash = grind arith;
        request = grind arith;
        sessions = grind arith;
        dead_ends = grind arith;
        startup = grind arith;
        checkpointer = grind arith;
        writer = grind arith;
      };
      in_state = grind arith;
      alone = grind arith;
      told = grind arith;
      stop = grind arith;
      crash = grind arith;
      starts = grind arith;
      there = grind arith;
      aborts = grind arith;
      opened = grind arith;
      closed = grind arith;
      noticed = grind arith;
      recovers = grind arith;
      checkpoints = grind arith;
    }

accept-facts : (limits : Limits) (m : Machine) (h : Trace) (pid : ℕ) (decision : Cac) → decide_of (view_of m) ≡ decision → MayAccept m → IsReady m → Facts limits m h.now
    → Facts limits (accepted_as decision m) (after h.now (supervisor.Accept pid decision))
accept-facts limits m h pid cac.Ok is may ready facts =
    record {
      same_limits = grind arith;
      shows = record {
        phase = grind arith;
        crash = grind arith;
        request = grind arith;
        sessions = grind arith;
        dead_ends = grind arith;
        startup = grind arith;
        checkpointer = grind arith;
        writer = grind arith;
      };
      in_state = grind arith;
      alone = grind arith;
      told = grind arith;
      stop = grind arith;
      crash = grind arith;
      starts = grind arith;
      there = grind arith;
      aborts = grind arith;
      opened = grind arith;
      closed = grind arith;
      noticed = grind arith;
      recovers = grind arith;
      checkpoints = grind arith;
    }
accept-facts limits m h pid cac.Startup is may ready facts = refused-facts limits m h.now pid may ready facts
accept-facts limits m h pid cac.Recovery is may ready facts = refused-facts limits m h.now pid may ready facts
accept-facts limits m h pid cac.Shutdown is may ready facts = refused-facts limits m h.now pid may ready facts
accept-facts limits m h pid cac.TooMany is may ready facts = refused-facts limits m h.now pid may ready facts

-- starting

start-may : (limits : Limits) (m : Machine) (s : Supervisor) (k : Kind) → m.ended ≡ false → IsDue m k → Facts limits m s → supervisor.MayStart k s
start-may limits m s kind.Startup goes_on due facts = grind arith
start-may limits m s kind.Checkpointer goes_on due facts = grind arith
start-may limits m s kind.Writer goes_on due facts = grind arith
start-may limits m s kind.Worker goes_on due facts = absurd due
start-may limits m s kind.Backend goes_on due facts = absurd due
start-may limits m s kind.DeadEnd goes_on due facts = absurd due

start-facts : (limits : Limits) (m : Machine) (h : Trace) (pid : ℕ) (k : Kind) → m.ended ≡ false → IsDue m k → Facts limits m h.now
    → Facts limits (started_as k m) (after h.now (supervisor.Start pid k))
start-facts limits m h pid kind.Startup goes_on due facts =
    record {
      same_limits = grind arith;
      shows = record {
        phase = grind arith;
        crash = grind arith;
        request = grind arith;
        sessions = grind arith;
        dead_ends = grind arith;
        startup = grind arith;
        checkpointer = grind arith;
        writer = grind arith;
      };
      in_state = grind arith;
      alone = grind arith;
      told = grind arith;
      stop = grind arith;
      crash = grind arith;
      starts = grind arith;
      there = grind arith;
      aborts = grind arith;
      opened = grind arith;
      closed = grind arith;
      noticed = grind arith;
      recovers = grind arith;
      checkpoints = grind arith;
    }
start-facts limits m h pid kind.Checkpointer goes_on due facts =
    record {
      same_limits = grind arith;
      shows = record {
        phase = grind arith;
        crash = grind arith;
        request = grind arith;
        sessions = grind arith;
        dead_ends = grind arith;
        startup = grind arith;
        checkpointer = grind arith;
        writer = grind arith;
      };
      in_state = grind arith;
      alone = grind arith;
      told = grind arith;
      stop = grind arith;
      crash = grind arith;
      starts = grind arith;
      there = grind arith;
      aborts = grind arith;
      opened = grind arith;
      closed = grind arith;
      noticed = grind arith;
      recovers = grind arith;
      checkpoints = grind arith;
    }
start-facts limits m h pid kind.Writer goes_on due facts =
    record {
      same_limits = grind arith;
      shows = record {
        phase = grind arith;
        crash = grind arith;
        request = grind arith;
        sessions = grind arith;
        dead_ends = grind arith;
        startup = grind arith;
        checkpointer = grind arith;
        writer = grind arith;
      };
      in_state = grind arith;
      alone = grind arith;
      told = grind arith;
      stop = grind arith;
      crash = grind arith;
      starts = grind arith;
      there = grind arith;
      aborts = grind arith;
      opened = grind arith;
      closed = grind arith;
      noticed = grind arith;
      recovers = grind arith;
      checkpoints = grind arith;
    }
start-facts limits m h pid kind.Worker goes_on due facts = absurd due
start-facts limits m h pid kind.Backend goes_on due facts = absurd due
start-facts limits m h pid kind.DeadEnd goes_on due facts = absurd due

-- asking

ask-run : (limits : Limits) (m : Machine) (h : Trace) (answer : Option Mode) (asked : Mode) (now : ℕ) → strengthen_of m.shutdown asked ≡ answer → IsReady m
    → Facts limits m h.now → IsRun limits h (events_of_request answer ++ events_of (asked_with answer m now).acts)
ask-run limits m h answer asked now is ready facts = grind arith

ask-facts : (limits : Limits) (m : Machine) (h : Trace) (answer : Option Mode) (asked : Mode) (now : ℕ) → strengthen_of m.shutdown asked ≡ answer → IsReady m
    → Facts limits m h.now → Facts limits (asked_with answer m now).after (all_happened h (events_of_request answer ++ events_of (asked_with answer m now).acts)).now
ask-facts limits m h None asked now is ready facts = facts
ask-facts limits m h (Some mode.Smart) asked now is ready facts =
    record {
      same_limits = grind arith;
      shows = record {
        phase = grind arith;
        crash = grind arith;
        request = grind arith;
        sessions = grind arith;
        dead_ends = grind arith;
        startup = grind arith;
        checkpointer = grind arith;
        writer = grind arith;
      };
      in_state = grind arith;
      alone = grind arith;
      told = grind arith;
      stop = grind arith;
      crash = grind arith;
      starts = grind arith;
      there = grind arith;
      aborts = grind arith;
      opened = grind arith;
      closed = grind arith;
      noticed = grind arith;
      recovers = grind arith;
      checkpoints = grind arith;
    }
ask-facts limits m h (Some mode.Fast) asked now is ready facts =
    record {
      same_limits = grind arith;
      shows = record {
        phase = grind arith;
        crash = grind arith;
        request = grind arith;
        sessions = grind arith;
        dead_ends = grind arith;
        startup = grind arith;
        checkpointer = grind arith;
        writer = grind arith;
      };
      in_state = grind arith;
      alone = grind arith;
      told = grind arith;
      stop = grind arith;
      crash = grind arith;
      starts = grind arith;
      there = grind arith;
      aborts = grind arith;
      opened = grind arith;
      closed = grind arith;
      noticed = grind arith;
      recovers = grind arith;
      checkpoints = grind arith;
    }
ask-facts limits m h (Some mode.Immediate) asked now is ready facts =
    record {
      same_limits = grind arith;
      shows = record {
        phase = grind arith;
        crash = grind arith;
        request = grind arith;
        sessions = grind arith;
        dead_ends = grind arith;
        startup = grind arith;
        checkpointer = grind arith;
        writer = grind arith;
      };
      in_state = grind arith;
      alone = grind arith;
      told = grind arith;
      stop = grind arith;
      crash = grind arith;
      starts = grind arith;
      there = grind arith;
      aborts = grind arith;
      opened = grind arith;
      closed = grind arith;
      noticed = grind arith;
      recovers = grind arith;
      checkpoints = grind arith;
    }

-- time

tick-run : (limits : Limits) (m : Machine) (h : Trace) (now : ℕ) → Facts limits m h.now → IsRun limits h (events_of (ticked_at m.abort_at m now).acts)
tick-run limits m h now facts = grind arith

tick-facts : (limits : Limits) (m : Machine) (h : Trace) (now : ℕ) → Facts limits m h.now
    → Facts limits (ticked_at m.abort_at m now).after (all_happened h (events_of (ticked_at m.abort_at m now).acts)).now
tick-facts limits m h now facts =
    record {
      same_limits = grind arith;
      shows = record {
        phase = grind arith;
        crash = grind arith;
        request = grind arith;
        sessions = grind arith;
        dead_ends = grind arith;
        startup = grind arith;
        checkpointer = grind arith;
        writer = grind arith;
      };
      in_state = grind arith;
      alone = grind arith;
      told = grind arith;
      stop = grind arith;
      crash = grind arith;
      starts = grind arith;
      there = grind arith;
      aborts = grind arith;
      opened = grind arith;
      closed = grind arith;
      noticed = grind arith;
      recovers = grind arith;
      checkpoints = grind arith;
    }

-- who is attached counts for nothing
abbrev SameCounts : List Child → List Child → Type 0
SameCounts cs ds = (test : Kind → Bool) → count_of test ds ≡ count_of test cs

children-facts : (limits : Limits) (m : Machine) (s : Supervisor) (ds : List Child) → SameCounts s.shared.children ds → Facts limits m s
    → Facts limits m (with_children s ds)
children-facts limits m s ds same facts =
    record {
      same_limits = facts.same_limits;
      shows = record {
        phase = facts.shows.phase;
        crash = facts.shows.crash;
        request = facts.shows.request;
        sessions = same is_session ∙ facts.shows.sessions;
        dead_ends = same is_dead_end ∙ facts.shows.dead_ends;
        startup = same is_startup_child ∙ facts.shows.startup;
        checkpointer = same is_checkpointer ∙ facts.shows.checkpointer;
        writer = same is_writer ∙ facts.shows.writer;
      };
      in_state = facts.in_state;
      alone = facts.alone;
      told = facts.told;
      stop = facts.stop;
      crash = facts.crash;
      starts = facts.starts;
      there = facts.there;
      aborts = facts.aborts;
      opened = facts.opened;
      closed = facts.closed;
      noticed = facts.noticed;
      recovers = facts.recovers;
      checkpoints = facts.checkpoints;
    }

mark-facts : (limits : Limits) (m : Machine) (s : Supervisor) (pid : ℕ) (b : Bool) → Facts limits m s
    → Facts limits m (with_children s (marked pid b s.shared.children))
mark-facts limits m s pid b facts =
    children-facts limits m s (marked pid b s.shared.children) (λ test. count-marked test pid b s.shared.children) facts

pub facts-alike : TakesChildStepsBetween → (limits : Limits) (m : Machine) (s t : Supervisor) → IsAlike s t → Facts limits m s → Facts limits m t
facts-alike between limits m s t near facts =
    subst (Facts limits m) (sym near.others)
    (children-facts limits m s t.shared.children (λ test. sym (between.counts test s t near)) facts)

pub alike-detached : (s t : Supervisor) → IsAlike s t → detached s.shared ≡ detached t.shared
alike-detached s t near =
    ap (λ cs. record s.shared { children = cs }) near.children
    ∙ ap (λ u. record u.shared { children = all_detached t.shared.children }) (sym near.others)

pub call-leads : (limits : Limits) (m : Machine) (h : Trace) (call : Call) → Facts limits m h.now → IsWell limits h → IsFit limits m h call
    → Leads limits h (events_of_call m call) (machine_after m call)
call-leads limits m h (Accepts pid) facts well fit =
    record {
      run = (
        record {
          goes_on = going_on limits m h.now fit.0.0 facts;
          rest = (accept-may limits m h.now fit.0 facts, accept-decision limits m h.now fit.0 facts);
          shared = record { of_shared = fit.2; of_past = tt };
        },
        tt,
      );
      facts = accept-facts limits m h pid (decide_of (view_of m)) refl fit.0 fit.1 facts;
    }
call-leads limits m h (Starts pid k) facts well fit =
    record {
      run = (
        record { goes_on = going_on limits m h.now fit.0 facts; rest = start-may limits m h.now k fit.0 fit.1 facts; shared = record { of_shared = fit.2; of_past = tt } },
        tt,
      );
      facts = start-facts limits m h pid k fit.0 fit.1 facts;
    }
call-leads limits m h (Exits pid k status was_active now) facts well fit = exit-leads limits m h pid k status was_active now facts well fit
call-leads limits m h (Asks mode now) facts well fit =
    record {
      run = ask-run limits m h (strengthen_of m.shutdown mode) mode now refl fit facts;
      facts = ask-facts limits m h (strengthen_of m.shutdown mode) mode now refl fit facts;
    }
call-leads limits m h (Ticks now) facts well fit =
    record { run = tick-run limits m h now facts; facts = tick-facts limits m h now facts }
call-leads limits m h TakesTurn facts well fit = turned limits h m fit.goes_on facts
call-leads limits m h (Attaches pid reserve) facts well fit = record { run = (record { goes_on = going_on limits m h.now fit.0 facts; rest = fit.1; shared = fit.2 }, tt); facts = mark-facts limits m h.now pid true facts }
call-leads limits m h (Touches pid) facts well fit = record { run = (record { goes_on = going_on limits m h.now fit.0 facts; rest = tt; shared = fit.1 }, tt); facts = facts }
call-leads limits m h (Detaches pid) facts well fit = record { run = (record { goes_on = going_on limits m h.now fit.0 facts; rest = tt; shared = fit.1 }, tt); facts = mark-facts limits m h.now pid false facts }

pub calls-lead : StaysWell → (limits : Limits) (m : Machine) (h : Trace) (calls : List Call) → Facts limits m h.now → IsWell limits h → AreFit limits m h calls
    → Leads limits h (events_in m calls) (machine_at_end m calls)
calls-lead laws limits m h [] facts well fit = record { run = tt; facts = facts }
calls-lead laws limits m h (call ∷ calls) facts well fit =
    let first : Leads limits h (events_of_call m call) (machine_after m call) = call-leads limits m h call facts well fit.0 in
    let g : Trace = all_happened h (events_of_call m call) in
    let rest : Leads limits g (events_in (machine_after m call) calls) (machine_at_end (machine_after m call) calls) =
    calls-lead laws limits (machine_after m call) g calls first.facts (laws.runs limits h (events_of_call m call) first.run well) fit.1 in
    record {
      run = IsRun-append limits h (events_of_call m call) (events_in (machine_after m call) calls) first.run rest.run;
      facts = rw (all_happened-append h (events_of_call m call) (events_in (machine_after m call) calls)) rest.facts;
    }

-- with steps of children anywhere between the events of the call

pub call-between : TakesChildStepsBetween → (limits : Limits) (m : Machine) (h : Trace) (call : Call) (events : List SupervisorEvent)
    → Facts limits m h.now → IsWell limits h → IsFit limits m h call → without_child_steps events ≡ events_of_call m call
    → ChildStepsMayHappen limits h events → Leads limits h events (machine_after m call)
call-between between limits m h call events facts well fit same may =
    let leads : Leads limits h (events_of_call m call) (machine_after m call) = call-leads limits m h call facts well fit in
    let calm : IsRun limits h (without_child_steps events) = subst (IsRun limits h) (sym same) leads.run in
    let near : IsAlike (all_happened h (without_child_steps events)).now (all_happened h events).now =
    between.leaves limits h events well.sound.kept calm may in
    let left : Facts limits (machine_after m call) (all_happened h (without_child_steps events)).now =
    subst (λ es. Facts limits (machine_after m call) (all_happened h es).now) (sym same) leads.facts in
    record {
      run = between.run limits h events well.sound.kept calm may;
      facts = facts-alike between limits (machine_after m call) (all_happened h (without_child_steps events)).now (all_happened h events).now near left;
    }

pub begun-facts : (limits : Limits) → Facts limits (begun limits) empty_trace.now
begun-facts limits = grind arith

-- a child that is there is counted

pub counted : (limits : Limits) (m : Machine) (s : Supervisor) (pid : ℕ) (k : Kind) → Facts limits m s
    → IsSomeAnd (child_of pid s.shared.children) (λ c. c.kind ≡ k) → IsCounted m k
counted limits m s pid kind.Startup facts there =
    let fewer : Less kind.Startup s.shared.children (without pid s.shared.children) = less kind.Startup pid s.shared.children there in grind arith
counted limits m s pid kind.Checkpointer facts there =
    let fewer : Less kind.Checkpointer s.shared.children (without pid s.shared.children) = less kind.Checkpointer pid s.shared.children there in grind arith
counted limits m s pid kind.Writer facts there =
    let fewer : Less kind.Writer s.shared.children (without pid s.shared.children) = less kind.Writer pid s.shared.children there in grind arith
counted limits m s pid kind.Worker facts there =
    let fewer : Less kind.Worker s.shared.children (without pid s.shared.children) = less kind.Worker pid s.shared.children there in grind arith
counted limits m s pid kind.Backend facts there =
    let fewer : Less kind.Backend s.shared.children (without pid s.shared.children) = less kind.Backend pid s.shared.children there in grind arith
counted limits m s pid kind.DeadEnd facts there =
    let fewer : Less kind.DeadEnd s.shared.children (without pid s.shared.children) = less kind.DeadEnd pid s.shared.children there in grind arith
