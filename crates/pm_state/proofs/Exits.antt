-- The end of a child is a run of the supervisor.
use Rattle.std.{proofs.Common.{◌≡◌, ℕ, ◌+◌, Bool, true, false, not, ◌&&◌, ◌||◌, List, Option, refl, arith, sym, ◌∙◌, ap}, specs.Prelude.{IsSomeAnd, if◌then◌else◌}}
use Rattle.pm_supervisor.specs.{pm_exit.{declared.child.{Status.Status, Kind.Kind}, Ends.class_of}, pm_modes.Strength.is_immediate, declared.{Limits.Limits, Reason.Reason}, Children.{Child, is_session, is_startup_child, is_checkpointer, is_writer, is_dead_end, child_of, without, one_if, count_of}, Supervisor.{Shared, Supervisor}, Steps.{Trace, IsRun, all_happened, happened, after, crashed_phase, exited_phase, is_crash, is_normal, is_checkpointing}}
use Rattle.pm_supervisor.specs.pm_exit.declared.child.Kind.TheVariants as kind
use Rattle.pm_supervisor.specs.Steps as supervisor
use Rattle.pm_state.{specs.{declared.machine.{Machine.Machine, Exit.Exit}, Exits.{is_shutdown, crash_rule, less_one}, Machine.IsReady, TurnRules.is_not_running, Shows.{phase_of, events_of}, Facts.{Facts, HoldsIn, IsAlone, IsTold, is_init, is_stop_reason, is_crash_reason, starts_in_startup, startup_is_there, aborts_with_cause, open_without_startup, closed_without_sessions, noticed_while_open, recovers_from_crash, has_checkpointer}}, proofs.Counts.count-without}

-- the machine after a child was taken away and before it looks for a crash, and the supervisor after the child's end
pub record Leaves (limits : Limits) (m : Machine) (s : Supervisor) (is_crash : Bool) : Type 0 where
  pub same_limits : m.limits ≡ limits
  pub goes_on : m.ended ≡ false
  pub has_begun : is_init m.state ≡ false
  pub due : (m.startup_due ≡ false) × (m.checkpointer_due ≡ false) × (m.writer_due ≡ false)
  pub phase : s.phase ≡ (if is_crash then crashed_phase false (phase_of m) else phase_of m)
  pub crash : s.crash ≡ m.fatal || (is_crash && not (is_immediate m.shutdown))
  pub request : s.request ≡ m.shutdown
  pub sessions : count_of is_session s.shared.children ≡ m.children
  pub dead_ends : count_of is_dead_end s.shared.children ≡ m.dead_ends
  pub startup : count_of is_startup_child s.shared.children ≡ one_if (not (is_not_running m.startup))
  pub checkpointer : count_of is_checkpointer s.shared.children ≡ one_if m.checkpointer
  pub writer : count_of is_writer s.shared.children ≡ one_if m.writer
  pub in_state : HoldsIn m.state m s.shared.noticed s.shared.is_open
  pub alone : IsAlone m.startup m
  pub told : IsTold m.startup s.shared.noticed
  pub stop : is_stop_reason s.shared.noticed ≡ is_immediate m.shutdown
  pub known : not (is_crash_reason s.shared.noticed) || m.fatal ≡ true
  pub starts : starts_in_startup m ≡ true
  pub there : startup_is_there m ≡ true
  pub aborts : aborts_with_cause m ≡ true
  pub opened : open_without_startup m s.shared ≡ true
  pub closed : closed_without_sessions m s.shared ≡ true
  pub noticed : noticed_while_open m s.shared ≡ true
  pub recovers : recovers_from_crash m s.shared ≡ true

pub calm : (limits : Limits) (m : Machine) (s : Supervisor) → Leaves limits m s false → has_checkpointer m ≡ true → Facts limits m s
calm limits m s leaves checkpoints =
    record {
      same_limits = leaves.same_limits;
      shows = record {
        phase = leaves.phase;
        crash = grind arith;
        request = leaves.request;
        sessions = leaves.sessions;
        dead_ends = leaves.dead_ends;
        startup = grind arith;
        checkpointer = leaves.checkpointer;
        writer = leaves.writer;
      };
      in_state = leaves.in_state;
      alone = leaves.alone;
      told = leaves.told;
      stop = leaves.stop;
      crash = leaves.known;
      starts = leaves.starts;
      there = leaves.there;
      aborts = leaves.aborts;
      opened = leaves.opened;
      closed = leaves.closed;
      noticed = leaves.noticed;
      recovers = leaves.recovers;
      checkpoints = checkpoints;
    }

pub crash-run : (limits : Limits) (m : Machine) (h : Trace) (exit : Exit) → Leaves limits m h.now true
    → IsRun limits h (events_of (crash_rule m exit).acts)
unfolding crash_rule
crash-run limits m h exit leaves = grind arith

pub crash-facts : (limits : Limits) (m : Machine) (h : Trace) (exit : Exit) → Leaves limits m h.now true
    → Facts limits (crash_rule m exit).after (all_happened h (events_of (crash_rule m exit).acts)).now
unfolding crash_rule
crash-facts limits m h exit leaves =
    record {
      same_limits = grind arith;
      shows = record {
        phase = grind arith;
        crash = grind arith;
        request = grind arith;
        sessions = grind arith;
        dead_ends = grind arith;
        startup = grind arith;
        checkpointer = grind arith;
        writer = grind arith;
      };
      in_state = grind arith;
      alone = grind arith;
      told = grind arith;
      stop = grind arith;
      crash = grind arith;
      starts = grind arith;
      there = grind arith;
      aborts = grind arith;
      opened = grind arith;
      closed = grind arith;
      noticed = grind arith;
      recovers = grind arith;
      checkpoints = grind arith;
    }

-- the last checkpoint is written in the machine exactly where it is in what it shows
same_checkpointing : (m : Machine) → m.ended ≡ false → is_checkpointing (phase_of m) ≡ is_shutdown m.state
same_checkpointing m goes_on = grind arith

same_class : (limits : Limits) (m : Machine) (s : Supervisor) (k : Kind) (status : Status) (was_active : Bool) → m.ended ≡ false → Facts limits m s
    → not (is_normal (class_of k (is_checkpointing s.phase) was_active status)) ≡ not (is_normal (class_of k (is_shutdown m.state) was_active status))
same_class limits m s k status was_active goes_on facts =
    ap (λ b. not (is_normal (class_of k b was_active status))) (ap is_checkpointing facts.shows.phase ∙ same_checkpointing m goes_on)

is_crash-class : (limits : Limits) (m : Machine) (s : Supervisor) (k : Kind) (status : Status) (was_active : Bool) → is_startup_child k ≡ false
    → m.ended ≡ false → Facts limits m s
    → is_crash s k status was_active ≡ not (is_normal (class_of k (is_shutdown m.state) was_active status))
is_crash-class limits m s kind.Startup status was_active other goes_on facts = absurd cc
is_crash-class limits m s kind.Checkpointer status was_active other goes_on facts = same_class limits m s kind.Checkpointer status was_active goes_on facts
is_crash-class limits m s kind.Writer status was_active other goes_on facts = same_class limits m s kind.Writer status was_active goes_on facts
is_crash-class limits m s kind.Worker status was_active other goes_on facts = same_class limits m s kind.Worker status was_active goes_on facts
is_crash-class limits m s kind.Backend status was_active other goes_on facts = same_class limits m s kind.Backend status was_active goes_on facts
is_crash-class limits m s kind.DeadEnd status was_active other goes_on facts = same_class limits m s kind.DeadEnd status was_active goes_on facts

-- such a child was there, and is there no more
pub record Less (k : Kind) (before after_ : List Child) : Type 0 where
  pub sessions : count_of is_session before ≡ one_if (is_session k) + count_of is_session after_
  pub dead_ends : count_of is_dead_end before ≡ one_if (is_dead_end k) + count_of is_dead_end after_
  pub startup : count_of is_startup_child before ≡ one_if (is_startup_child k) + count_of is_startup_child after_
  pub checkpointer : count_of is_checkpointer before ≡ one_if (is_checkpointer k) + count_of is_checkpointer after_
  pub writer : count_of is_writer before ≡ one_if (is_writer k) + count_of is_writer after_

pub less : (k : Kind) (pid : ℕ) (cs : List Child) → IsSomeAnd (child_of pid cs) (λ c. c.kind ≡ k) → Less k cs (without pid cs)
less k pid cs there =
    record {
      sessions = count-without is_session pid k cs there;
      dead_ends = count-without is_dead_end pid k cs there;
      startup = count-without is_startup_child pid k cs there;
      checkpointer = count-without is_checkpointer pid k cs there;
      writer = count-without is_writer pid k cs there;
    }

less_one-begun : (limits : Limits) (m : Machine) (s : Supervisor) (k : Kind) (cs : List Child) → Less k s.shared.children cs → Facts limits m s
    → is_init m.state ≡ false
less_one-begun limits m s k cs less facts = grind arith

-- what taking a child away leaves as it was
record Keeps (m n : Machine) : Type 0 where
  limits : n.limits ≡ m.limits
  state : n.state ≡ m.state
  shutdown : n.shutdown ≡ m.shutdown
  fatal : n.fatal ≡ m.fatal
  conns : n.conns ≡ m.conns
  startup : n.startup ≡ m.startup
  abort_at : n.abort_at ≡ m.abort_at
  ended : n.ended ≡ m.ended
  startup_due : n.startup_due ≡ m.startup_due
  checkpointer_due : n.checkpointer_due ≡ m.checkpointer_due
  writer_due : n.writer_due ≡ m.writer_due

less_one-keeps : (k : Kind) (m : Machine) → is_startup_child k ≡ false → Keeps m (less_one k m)
less_one-keeps k m other = grind arith

less_one-in_state : (limits : Limits) (m : Machine) (s : Supervisor) (k : Kind) → is_startup_child k ≡ false → Facts limits m s
    → HoldsIn (less_one k m).state (less_one k m) s.shared.noticed s.shared.is_open
less_one-in_state limits m s k other facts = grind arith

less_one-alone : (limits : Limits) (m : Machine) (s : Supervisor) (k : Kind) → is_startup_child k ≡ false → Facts limits m s
    → IsAlone (less_one k m).startup (less_one k m)
less_one-alone limits m s k other facts = grind arith

less_one-told : (k : Kind) (m : Machine) (noticed : Option Reason) → is_startup_child k ≡ false → IsTold m.startup noticed → IsTold (less_one k m).startup noticed
less_one-told k m noticed other told = grind arith

less_one-sessions : (k : Kind) (m : Machine) (a b : ℕ) → a ≡ one_if (is_session k) + b → a ≡ m.children → b ≡ (less_one k m).children
less_one-sessions k m a b p q = grind arith

less_one-dead_ends : (k : Kind) (m : Machine) (a b : ℕ) → a ≡ one_if (is_dead_end k) + b → a ≡ m.dead_ends → b ≡ (less_one k m).dead_ends
less_one-dead_ends k m a b p q = grind arith

less_one-startup : (k : Kind) (m : Machine) (a b : ℕ) → is_startup_child k ≡ false → a ≡ one_if (is_startup_child k) + b → m.startup_due ≡ false
    → a ≡ one_if (not (is_not_running m.startup) && not m.startup_due) → b ≡ one_if (not (is_not_running (less_one k m).startup))
less_one-startup k m a b other p due q = grind arith

less_one-checkpointer : (k : Kind) (m : Machine) (a b : ℕ) → a ≡ one_if (is_checkpointer k) + b → a ≡ one_if m.checkpointer
    → b ≡ one_if (less_one k m).checkpointer
less_one-checkpointer k m a b p q = grind arith

less_one-writer : (k : Kind) (m : Machine) (a b : ℕ) → a ≡ one_if (is_writer k) + b → a ≡ one_if m.writer → b ≡ one_if (less_one k m).writer
less_one-writer k m a b p q = grind arith

less_one-phase : (k : Kind) (m : Machine) → is_startup_child k ≡ false → phase_of (less_one k m) ≡ phase_of m
less_one-phase k m other = grind arith

less_one-closed : (k : Kind) (m : Machine) (s : Shared) → closed_without_sessions m s ≡ true → closed_without_sessions (less_one k m) s ≡ true
less_one-closed k m s closed = grind arith

pub less_one-checkpoints : (k : Kind) (m : Machine) → is_startup_child k ≡ false → is_checkpointer k ≡ false → has_checkpointer m ≡ true
    → has_checkpointer (less_one k m) ≡ true
less_one-checkpoints k m other no_checkpointer checkpoints = grind arith

-- the phase after the end of a child that isn't the startup child
exited_phase-other : (s : Supervisor) (k : Kind) (status : Status) (was_active : Bool) → is_startup_child k ≡ false
    → exited_phase s k status was_active ≡ (if is_crash s k status was_active then crashed_phase false s.phase else s.phase)
exited_phase-other s kind.Startup status was_active other = absurd cc
exited_phase-other s kind.Checkpointer status was_active other = refl
exited_phase-other s kind.Writer status was_active other = refl
exited_phase-other s kind.Worker status was_active other = refl
exited_phase-other s kind.Backend status was_active other = refl
exited_phase-other s kind.DeadEnd status was_active other = refl

-- the end of a child that isn't the startup child
pub less_one-leaves : (limits : Limits) (m : Machine) (h : Trace) (pid : ℕ) (k : Kind) (status : Status) (was_active : Bool) → is_startup_child k ≡ false
    → IsReady m → Facts limits m h.now → IsSomeAnd (child_of pid h.now.shared.children) (λ c. c.kind ≡ k)
    → Leaves limits (less_one k m) (after h.now (supervisor.Exit pid k status was_active))
    (not (is_normal (class_of k (is_shutdown m.state) was_active status)))
less_one-leaves limits m h pid k status was_active other ready facts there =
    let cs : List Child = h.now.shared.children in
    let fewer : Less k cs (without pid cs) = less k pid cs there in
    let keeps : Keeps m (less_one k m) = less_one-keeps k m other in
    let B : Bool = not (is_normal (class_of k (is_shutdown m.state) was_active status)) in
    let same : is_crash h.now k status was_active ≡ B = is_crash-class limits m h.now k status was_active other ready.goes_on facts in
    record {
      same_limits = keeps.limits ∙ facts.same_limits;
      goes_on = keeps.ended ∙ ready.goes_on;
      has_begun = ap is_init keeps.state ∙ less_one-begun limits m h.now k (without pid cs) fewer facts;
      due = (keeps.startup_due ∙ ready.startup_reported, keeps.checkpointer_due ∙ ready.checkpointer_reported, keeps.writer_due ∙ ready.writer_reported);
      phase =
          exited_phase-other h.now k status was_active other
          ∙ (ap (λ b. if b then crashed_phase false h.now.phase else h.now.phase) same
          ∙ ap (λ p. if B then crashed_phase false p else p) (facts.shows.phase ∙ sym (less_one-phase k m other)));
      crash = rw (same, facts.shows.crash, facts.shows.request, keeps.fatal, keeps.shutdown) refl;
      request = facts.shows.request ∙ sym keeps.shutdown;
      sessions = less_one-sessions k m (count_of is_session cs) (count_of is_session (without pid cs)) fewer.sessions facts.shows.sessions;
      dead_ends = less_one-dead_ends k m (count_of is_dead_end cs) (count_of is_dead_end (without pid cs)) fewer.dead_ends facts.shows.dead_ends;
      startup =
          less_one-startup k m (count_of is_startup_child cs) (count_of is_startup_child (without pid cs)) other fewer.startup
          ready.startup_reported facts.shows.startup;
      checkpointer =
          less_one-checkpointer k m (count_of is_checkpointer cs) (count_of is_checkpointer (without pid cs)) fewer.checkpointer
          facts.shows.checkpointer;
      writer = less_one-writer k m (count_of is_writer cs) (count_of is_writer (without pid cs)) fewer.writer facts.shows.writer;
      in_state = less_one-in_state limits m h.now k other facts;
      alone = less_one-alone limits m h.now k other facts;
      told = less_one-told k m h.now.shared.noticed other facts.told;
      stop = facts.stop ∙ ap is_immediate (sym keeps.shutdown);
      known = rw keeps.fatal facts.crash;
      starts = rw (keeps.startup, keeps.shutdown, keeps.state) facts.starts;
      there = rw (keeps.state, keeps.ended, keeps.startup) facts.there;
      aborts = rw (keeps.abort_at, keeps.fatal, keeps.shutdown) facts.aborts;
      opened = rw keeps.startup facts.opened;
      closed = less_one-closed k m h.now.shared facts.closed;
      noticed = rw keeps.fatal facts.noticed;
      recovers = rw keeps.fatal facts.recovers;
    }
