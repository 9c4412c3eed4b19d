-- The machine counts the children that are there: what each event leaves of it.
use Rattle.std.{proofs.Common.{◌≡◌, ◌⊎◌, inl, inr, ℕ, ◌+◌, Bool, true, false, not, ◌&&◌, ◌||◌, List, [], ◌∷◌, Some, None, refl, arith}, specs.Prelude.{◌==◌, Option, if◌then◌else◌, is_some, nat_le}}
use Rattle.pm_supervisor.specs.{pm_exit.{declared.child.{Kind.Kind, Class.Class}, Ends.{class_of, is_exit_0, is_exit_1}}, pm_modes.{declared.Mode.Mode, Strength.is_immediate}, pm_admit.{declared.{Cac.Cac, PmState.PmState}, Admission.{is_run, is_startup}}, declared.Limits.Limits, Children.{Child, is_session, is_startup_child, is_checkpointer, is_writer, is_dead_end, count_of, one_if}, Steps.kind_for}
use Rattle.pm_supervisor.specs.pm_exit.declared.child.Kind.TheVariants as kind
use Rattle.pm_supervisor.specs.pm_exit.declared.child.Class.TheVariants as class
use Rattle.pm_supervisor.specs.pm_admit.declared.PmState.TheVariants as state
use Rattle.pm_state.{specs.{declared.machine.{Machine.Machine, Exit.Exit}, Exits.{is_shutdown, is_running, crash_rule, startup_exited, checkpointer_exited, unless_normal, exited_by, less_one, without_startup, waiting_state, signalled_state, redo_ended}, Facts.NothingDue, Machine.{MayAccept, IsDue, accepted_as, begun, started_as}, Requests.{asked_with, patience, ticked_at}, Restarts.Counts, Transition.{Transition, transition}, TurnRules.{is_not_running, are_backends_gone, start_recovery, restart_writer, end_smart, stop_backends, backends_gone, dead_ends_gone, children_gone}, Journal.{row_of, settled}}, proofs.{Exits.Less, ChildLaws.is_deserted}}

-- what the machine counts, and what is due
pub record Tally : Type 0 where
  pub children : ℕ
  pub dead_ends : ℕ
  pub startup : Bool
  pub checkpointer : Bool
  pub writer : Bool
  pub startup_due : Bool
  pub checkpointer_due : Bool
  pub writer_due : Bool

abbrev pub tally_of : Machine → Tally
tally_of m =
    record {
      children = m.children;
      dead_ends = m.dead_ends;
      startup = not (is_not_running m.startup);
      checkpointer = m.checkpointer;
      writer = m.writer;
      startup_due = m.startup_due;
      checkpointer_due = m.checkpointer_due;
      writer_due = m.writer_due;
    }

-- a start may be due in these states
abbrev pub is_starting : PmState → Bool
is_starting state.Startup = true
is_starting state.Run = true
is_starting state.Shutdown = true
is_starting _ = false

abbrev is_none_due : Tally → Bool
is_none_due t = not (t.startup_due || t.checkpointer_due || t.writer_due)

abbrev pub is_empty : Tally → Bool
is_empty t = not t.startup && (t.children == 0) && (t.dead_ends == 0) && not t.checkpointer && not t.writer

-- the children that are there are counted, and what keeps it so
pub record Ties (p : PmState) (t : Tally) (cs : List Child) : Type 0 where
  pub sessions : count_of is_session cs ≡ t.children
  pub dead_ends : count_of is_dead_end cs ≡ t.dead_ends
  pub startup : count_of is_startup_child cs ≡ one_if (t.startup && not t.startup_due)
  pub checkpointer : count_of is_checkpointer cs ≡ one_if t.checkpointer
  pub writer : count_of is_writer cs ≡ one_if t.writer
  -- beside a startup child stands neither checkpointer nor writer
  pub alone : not t.startup || not (t.checkpointer || t.writer || t.checkpointer_due || t.writer_due) ≡ true
  -- what is due isn't there yet
  pub startup_due : not t.startup_due || t.startup ≡ true
  pub checkpointer_due : not (t.checkpointer_due && t.checkpointer) ≡ true
  pub writer_due : not (t.writer_due && t.writer) ≡ true
  pub still : is_starting p || is_none_due t ≡ true
  pub running : not (is_run p) || not t.startup ≡ true
  pub nobody : not (is_deserted p) || is_empty t ≡ true

abbrev pub Tied : Machine → List Child → Type 0
Tied m cs = Ties m.state (tally_of m) cs

pub tied-counts : (m : Machine) (cs : List Child) → Tied m cs → Counts m cs
tied-counts m cs tied =
    record { sessions = tied.sessions; dead_ends = tied.dead_ends; startup = tied.startup; checkpointer = tied.checkpointer; writer = tied.writer }

pub begun-tied : (limits : Limits) → Tied (begun limits) []
begun-tied limits =
    record {
      sessions = refl;
      dead_ends = refl;
      startup = refl;
      checkpointer = refl;
      writer = refl;
      alone = refl;
      startup_due = refl;
      checkpointer_due = refl;
      writer_due = refl;
      still = refl;
      running = refl;
      nobody = refl;
    }

-- the state alone moves
to-state : (p q : PmState) (t : Tally) (cs : List Child) → Ties p t cs → is_starting q || is_none_due t ≡ true → not (is_run q) || not t.startup ≡ true
    → not (is_deserted q) || is_empty t ≡ true → Ties q t cs
to-state p q t cs ties still running nobody =
    record {
      sessions = ties.sessions;
      dead_ends = ties.dead_ends;
      startup = ties.startup;
      checkpointer = ties.checkpointer;
      writer = ties.writer;
      alone = ties.alone;
      startup_due = ties.startup_due;
      checkpointer_due = ties.checkpointer_due;
      writer_due = ties.writer_due;
      still = still;
      running = running;
      nobody = nobody;
    }

none-due : (m : Machine) → NothingDue m → is_none_due (tally_of m) ≡ true
none-due m none = rw (none.startup, none.checkpointer, none.writer) refl

-- either way, by a test
pub by-test : (Q : Transition → Type 0) (b : Bool) (one two : Transition) → (b ≡ true → Q one) → (b ≡ false → Q two) → Q (if b then one else two)
by-test Q true one two first second = first refl
by-test Q false one two first second = second refl

-- moves that leave no entry

pub settled-does : (m : Machine) → (settled m ≡ m)
    ⊎ (((settled m ≡ record m { state = state.WaitDeadEnd }) × (m.state ≡ state.WaitBackends))
    ⊎ ((settled m ≡ record m { state = state.NoChildren }) × (is_empty (tally_of m) ≡ true) × (is_starting m.state ≡ false)))
unfolding settled backends_gone dead_ends_gone
settled-does m = grind arith

still-due : (p : PmState) (t : Tally) (cs : List Child) → is_starting p ≡ false → Ties p t cs → is_none_due t ≡ true
still-due p t cs is ties = grind (arith, is, ties.still)

waits-still : (p : PmState) → p ≡ state.WaitBackends → is_starting p ≡ false
waits-still p is = rw is refl

pub settled-tied : (m : Machine) (cs : List Child) → Tied m cs → Tied (settled m) cs
settled-tied m cs tied =
    elim (settled-does m) as (λ _. Tied (settled m) cs) [
      | inl same ↦ rw same tied
      | inr (inl clears) ↦ rw clears.0
          (to-state m.state state.WaitDeadEnd (tally_of m) cs tied (still-due m.state (tally_of m) cs (waits-still m.state clears.1) tied) refl refl)
      | inr (inr gone) ↦ rw gone.0
          (to-state m.state state.NoChildren (tally_of m) cs tied (still-due m.state (tally_of m) cs gone.2 tied) refl gone.1)
    ]

-- a connection, a start, a request, time

pub accepted-tied : (m : Machine) (decision : Cac) (c : Child) (cs : List Child) → c.kind ≡ kind_for decision → MayAccept m → Tied m cs
    → Tied (accepted_as decision m) (c ∷ cs)
accepted-tied m decision c cs is may tied = grind arith

pub started-tied : (m : Machine) (k : Kind) (c : Child) (cs : List Child) → c.kind ≡ k → IsDue m k → Tied m cs → Tied (started_as k m) (c ∷ cs)
started-tied m k c cs is due tied = grind arith

pub asked-tied : (m : Machine) (answer : Option Mode) (now : ℕ) (cs : List Child) → NothingDue m → Tied m cs → Tied (asked_with answer m now).after cs
asked-tied m answer now cs none tied = grind arith

told-tied : (since : Option ℕ) (m : Machine) (now : ℕ) (cs : List Child) → Tied m cs → Tied (ticked_at since m now).after cs
told-tied None m now cs tied = tied
told-tied (Some since) m now cs tied =
    by-test (λ o. Tied o.after cs) (nat_le (since + patience) now && (m.fatal || is_immediate m.shutdown)) _ _ (λ is. tied) (λ is. tied)

pub ticked-tied : (m : Machine) (now : ℕ) (cs : List Child) → Tied m cs → Tied (ticked_at m.abort_at m now).after cs
ticked-tied m now cs tied = told-tied m.abort_at m now cs tied

-- a row of a turn

starts-ties : (p : PmState) (t : Tally) (cs : List Child) → is_deserted p ≡ true → is_none_due t ≡ true → Ties p t cs
    → Ties state.Startup (record t { startup = true; startup_due = true }) cs
starts-ties p t cs deserted none ties =
    record {
      sessions = ties.sessions;
      dead_ends = ties.dead_ends;
      startup = grind (arith, ties.startup, ties.nobody);
      checkpointer = ties.checkpointer;
      writer = ties.writer;
      alone = grind (arith, ties.nobody, none);
      startup_due = refl;
      checkpointer_due = ties.checkpointer_due;
      writer_due = ties.writer_due;
      still = refl;
      running = refl;
      nobody = refl;
    }

writes-ties : (t : Tally) (cs : List Child) → t.writer ≡ false → Ties state.Run t cs → Ties state.Run (record t { writer_due = true }) cs
writes-ties t cs lacks ties =
    record {
      sessions = ties.sessions;
      dead_ends = ties.dead_ends;
      startup = ties.startup;
      checkpointer = ties.checkpointer;
      writer = ties.writer;
      alone = grind (arith, ties.running);
      startup_due = ties.startup_due;
      checkpointer_due = ties.checkpointer_due;
      writer_due = rw lacks refl;
      still = refl;
      running = ties.running;
      nobody = refl;
    }

-- the last checkpoint is to be written: by a checkpointer that is started, if there is none
checkpoints-ties : (p : PmState) (t : Tally) (cs : List Child) → t.startup ≡ false → t.checkpointer ≡ false → Ties p t cs
    → Ties state.Shutdown (record t { checkpointer_due = true }) cs
checkpoints-ties p t cs gone lacks ties =
    record {
      sessions = ties.sessions;
      dead_ends = ties.dead_ends;
      startup = ties.startup;
      checkpointer = ties.checkpointer;
      writer = ties.writer;
      alone = rw gone refl;
      startup_due = ties.startup_due;
      checkpointer_due = rw lacks refl;
      writer_due = ties.writer_due;
      still = refl;
      running = refl;
      nobody = refl;
    }

lacks-writer : (conns writer : Bool) → conns && not writer ≡ true → writer ≡ false
lacks-writer conns writer is = grind arith

startup-gone : (m : Machine) → not (are_backends_gone m) ≡ false → not (is_not_running m.startup) ≡ false
startup-gone m gone = grind arith

row-in : (p : PmState) (m : Machine) (cs : List Child) → NothingDue m → Ties p (tally_of m) cs → Tied (row_of (record m { state = p })).after cs
unfolding row_of start_recovery restart_writer end_smart stop_backends backends_gone children_gone
row-in state.Init m cs none ties = starts-ties state.Init (tally_of m) cs refl (none-due m none) ties
row-in state.Startup m cs none ties = ties
row-in state.Run m cs none ties =
    let n : Machine = record m { state = state.Run } in
    by-test (λ o. Tied o.after cs) m.conns (restart_writer n) (stop_backends (end_smart n).after)
    (λ on. by-test (λ o. Tied o.after cs) (m.conns && not m.writer) _ _ (λ is. writes-ties (tally_of m) cs (lacks-writer m.conns m.writer is) ties) (λ is. ties))
    (λ off. elim (not m.conns && (m.children == 0)) as
    (λ v. Tied (stop_backends (if v then transition [] (record n { state = state.StopBackends }) else transition [] n).after).after cs) [
      | true ↦ to-state state.Run state.WaitBackends (tally_of m) cs ties (none-due m none) refl refl
      | false ↦ ties
    ])
row-in state.StopBackends m cs none ties = to-state state.StopBackends state.WaitBackends (tally_of m) cs ties (none-due m none) refl refl
row-in state.WaitBackends m cs none ties =
    by-test (λ o. Tied o.after cs) (not (are_backends_gone (record m { state = state.WaitBackends }))) _ _ (λ is. ties)
    (λ gone. by-test (λ o. Tied o.after cs) (m.fatal || is_immediate m.shutdown) _ _
    (λ is. by-test (λ o. Tied o.after cs) m.checkpointer _ _ (λ is. ties)
    (λ is. to-state state.WaitBackends state.WaitDeadEnd (tally_of m) cs ties (none-due m none) refl refl))
    (λ is. by-test (λ o. Tied o.after cs) m.checkpointer _ _
    (λ is. to-state state.WaitBackends state.Shutdown (tally_of m) cs ties refl refl refl)
    (λ is. checkpoints-ties state.WaitBackends (tally_of m) cs (startup-gone m gone) is ties)))
row-in state.Shutdown m cs none ties = ties
row-in state.WaitDeadEnd m cs none ties = ties
row-in state.NoChildren m cs none ties =
    by-test (λ o. Tied o.after cs) (is_some m.shutdown && m.fatal) _ _ (λ is. ties)
    (λ is. by-test (λ o. Tied o.after cs) (is_some m.shutdown) _ _ (λ is. ties)
    (λ is. by-test (λ o. Tied o.after cs) (not m.limits.restart_after_crash) _ _ (λ is. ties)
    (λ is. starts-ties state.NoChildren (tally_of m) cs refl (none-due m none) ties)))

pub row-tied : (m : Machine) (cs : List Child) → NothingDue m → Tied m cs → Tied (row_of m).after cs
row-tied m cs none tied = row-in m.state m cs none tied

-- the end of a child

crash-tied : (m : Machine) (exit : Exit) (cs : List Child) → NothingDue m → Tied m cs → Tied (crash_rule m exit).after cs
unfolding crash_rule
crash-tied m exit cs none tied = grind arith

pub less-tied : (k : Kind) (m : Machine) (before cs : List Child) → Less k before cs → NothingDue m → Tied m before → Tied (less_one k m) cs
less-tied kind.Startup m before cs less none tied = grind arith
less-tied kind.Checkpointer m before cs less none tied = grind arith
less-tied kind.Writer m before cs less none tied = grind arith
less-tied kind.Worker m before cs less none tied = grind arith
less-tied kind.Backend m before cs less none tied = grind arith
less-tied kind.DeadEnd m before cs less none tied = grind arith

less-none : (m : Machine) (k : Kind) → NothingDue m → NothingDue (less_one k m)
less-none m k none = grind arith

-- a startup child was there
was-started : (m : Machine) (before cs : List Child) → Less kind.Startup before cs → Tied m before → is_deserted m.state ≡ false
was-started m before cs less tied = grind (arith, less.startup, tied.startup, tied.nobody)

waits-apart : (p : PmState) → (is_deserted (waiting_state p) ≡ false) × (is_run (waiting_state p) ≡ false)
waits-apart p = grind arith

signalled-apart : (p : PmState) → is_deserted p ≡ false → is_deserted (signalled_state p) ≡ false
signalled-apart p is = grind arith

-- without its startup child, in another state
without-tied : (m : Machine) (q : PmState) (cs : List Child) → NothingDue m → is_deserted q ≡ false → Tied (less_one kind.Startup m) cs
    → Tied (without_startup m q) cs
without-tied m q cs none other tied =
    to-state m.state q (tally_of (less_one kind.Startup m)) cs tied
    (grind (arith, none-due m none)) (grind arith) (rw other refl)

redo-tied : (m : Machine) (exit : Exit) (before cs : List Child) → Less kind.Startup before cs → NothingDue m → Tied m before
    → Tied (redo_ended m).after cs
redo-tied m exit before cs less none tied =
    record {
      sessions = grind (arith, less.sessions, tied.sessions);
      dead_ends = grind (arith, less.dead_ends, tied.dead_ends);
      startup = grind (arith, less.startup, tied.startup);
      checkpointer = grind (arith, less.checkpointer, tied.checkpointer);
      writer = grind (arith, less.writer, tied.writer);
      alone = refl;
      startup_due = rw none.startup refl;
      checkpointer_due = grind (arith, less.startup, tied.startup, tied.alone);
      writer_due = grind (arith, less.startup, tied.startup, tied.alone);
      still = refl;
      running = refl;
      nobody = refl;
    }

startup-tied : (m : Machine) (exit : Exit) (before cs : List Child) → Less kind.Startup before cs → NothingDue m → Tied m before
    → Tied (startup_exited m exit).after cs
unfolding startup_exited
startup-tied m exit before cs less none tied =
    let left : Tied (less_one kind.Startup m) cs = less-tied kind.Startup m before cs less none tied in
    let there : is_deserted m.state ≡ false = was-started m before cs less tied in
    by-test (λ o. Tied o.after cs) (is_some m.shutdown && (is_exit_0 exit.status || is_exit_1 exit.status)) _ _
    (λ is. without-tied m (waiting_state m.state) cs none (waits-apart m.state).0 left)
    (λ is. by-test (λ o. Tied o.after cs) (is_exit_0 exit.status) _ _ (λ is. redo-tied m exit before cs less none tied)
    (λ is. by-test (λ o. Tied o.after cs) (is_startup m.state && is_running m.startup) _ _ (λ is. left)
    (λ is. crash-tied (without_startup m (signalled_state m.state)) exit cs
    (record { startup = none.startup; checkpointer = none.checkpointer; writer = none.writer })
    (without-tied m (signalled_state m.state) cs none (signalled-apart m.state there) left))))

-- what is to be shown of the end of a child, by its kind and class
pub record ExitCases (Q : Transition → Type 0) (k : Kind) (m : Machine) (exit : Exit) : Type 0 where
  pub startup : k ≡ kind.Startup → Q (startup_exited m exit)
  pub crash : Q (crash_rule (less_one k m) exit)
  pub normal : Q (transition [] (less_one k m))
  pub written : Q (transition [] (record (less_one k m) { state = state.WaitDeadEnd }))

unless-by : (Q : Transition → Type 0) (cls : Class) (m : Machine) (exit : Exit) → Q (crash_rule m exit) → Q (transition [] m) → Q (unless_normal cls m exit)
unless-by Q class.Normal m exit crash normal = normal
unless-by Q class.Crash m exit crash normal = crash
unless-by Q class.StartupFailed m exit crash normal = crash

written-by : (Q : Transition → Type 0) (cls : Class) (m : Machine) (exit : Exit) → Q (crash_rule m exit) → Q (transition [] (record m { state = state.WaitDeadEnd }))
    → Q (checkpointer_exited cls m exit)
written-by Q class.Normal m exit crash written = written
written-by Q class.Crash m exit crash written = crash
written-by Q class.StartupFailed m exit crash written = crash

pub by-exit : (Q : Transition → Type 0) (k : Kind) (m : Machine) (exit : Exit) (a : Bool) → ExitCases Q k m exit → Q (exited_by k m exit a)
by-exit Q kind.Startup m exit a cases = cases.startup refl
by-exit Q kind.Checkpointer m exit a cases = written-by Q (class_of kind.Checkpointer (is_shutdown m.state) a exit.status) _ exit cases.crash cases.written
by-exit Q kind.Writer m exit a cases = unless-by Q (class_of kind.Writer (is_shutdown m.state) a exit.status) _ exit cases.crash cases.normal
by-exit Q kind.Worker m exit a cases = unless-by Q (class_of kind.Worker (is_shutdown m.state) a exit.status) _ exit cases.crash cases.normal
by-exit Q kind.Backend m exit a cases = unless-by Q (class_of kind.Backend (is_shutdown m.state) a exit.status) _ exit cases.crash cases.normal
by-exit Q kind.DeadEnd m exit a cases = unless-by Q (class_of kind.DeadEnd (is_shutdown m.state) a exit.status) _ exit cases.crash cases.normal

is-less : (k : Kind) (before cs : List Child) → k ≡ kind.Startup → Less k before cs → Less kind.Startup before cs
is-less k before cs is less = rw (← is) less

pub exited-tied : (k : Kind) (m : Machine) (exit : Exit) (a : Bool) (before cs : List Child) → Less k before cs → NothingDue m → Tied m before
    → Tied (exited_by k m exit a).after cs
exited-tied k m exit a before cs less none tied =
    let left : Tied (less_one k m) cs = less-tied k m before cs less none tied in
    let due : NothingDue (less_one k m) = less-none m k none in
    by-exit (λ o. Tied o.after cs) k m exit a (record {
      startup = λ is. startup-tied m exit before cs (is-less k before cs is less) none tied;
      crash = crash-tied (less_one k m) exit cs due left;
      normal = left;
      written = to-state (less_one k m).state state.WaitDeadEnd (tally_of (less_one k m)) cs left (none-due (less_one k m) due) refl refl;
    })
