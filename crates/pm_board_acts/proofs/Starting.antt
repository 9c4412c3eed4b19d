-- Which children a call of the machine starts, and which may still be started after it.
use Rattle.std.{proofs.{Common.{◌≡◌, ℕ, ◌≤◌, ◌+◌, List, [], ◌∷◌, ◌++◌, refl, sym, ap, subst, ◌∙◌, arith}, lemmas.Bool.{or_right, or_from}}, specs.Prelude.{nat_le, Bool, true, false, not, ◌==◌, ◌&&◌, ◌||◌, if◌then◌else◌, Option, Some, None, is_some, IsSomeAnd}}
use Rattle.pm_board.specs.{pm_facts.Bools.by_test, pm_exit.{declared.child.{Kind.Kind, Class.Class, Status.Status}, Ends.{class_of, is_exit_0, is_exit_1}}, Places.is_auxiliary}
use Rattle.pm_board.specs.pm_exit.declared.child.Kind.TheVariants as kind
use Rattle.pm_board.specs.pm_exit.declared.child.Class.TheVariants as class
use Rattle.pm_modes.{specs.{declared.Mode.Mode, Strength.{is_immediate, strengthen_of}}, proofs.StrengthLaws.strengthens}
use Rattle.pm_modes.specs.declared.Mode.TheVariants as mode
use Rattle.pm_state.specs.{pm_admit.{declared.{Cac.Cac, PmState.PmState}, Admission.{decide_of, is_startup}}, declared.{action.Action.Action, machine.{Machine.Machine, StartupStatus.StartupStatus}}, Transition.{Transition, transition}, Exits.{redo_ended, waiting_state, exit_line, crash_rule, crashed_state, unless_normal, startup_exited, checkpointer_exited, exited_by, less_one, without_startup, signalled_of, signalled_state, is_running, is_shutdown}, Facts.{Facts, HoldsIn, is_init, is_stop_reason}, Journal.acts_of_call, Machine.{accepted_as, started_as, view_of}, Requests.{asked_in, asked_with, ticked_at}, Shows.{Call, Accepts, Starts, Exits, Asks, Ticks, TakesTurn, Attaches, Touches, Detaches, machine_after}, TurnRules.{startup_starts, is_not_running, are_backends_gone, start_recovery, start_recovery_in, restart_writer, restart_writer_in, end_smart, end_smart_in, stop_backends, stop_backends_in, backends_gone, backends_gone_in, dead_ends_gone, dead_ends_gone_in, children_gone, children_gone_in, turned_of}}
use Rattle.pm_state.specs.pm_admit.declared.Cac.TheVariants as cac
use Rattle.pm_state.specs.pm_admit.declared.PmState.TheVariants as state
use Rattle.pm_supervisor.{specs.{declared.Limits.Limits, Children.{Child, child_of, count_of, one_if, is_startup_child, is_checkpointer, is_writer}, Supervisor.Supervisor, Steps.Trace}, proofs.CountLaws.none_counted}
use Rattle.pm_supervisor.specs.declared.Reason.TheVariants as reason
use Rattle.pm_supervisor.specs.declared.Ending.TheVariants as ending
use Rattle.pm_state.specs.declared.action.Action.TheVariants as action
use Rattle.pm_state.specs.declared.action.Line.TheVariants as line
use Rattle.pm_state.specs.declared.machine.StartupStatus.TheVariants as startup
use Rattle.pm_board_acts.{specs.Acts.{StartOnly, may_start, renews}, proofs.{MayBeDone.{alone_of, at_least, runs_of}, Turning.{in_order, inside, rest0, rest1, rest2, rest3, rest_s, rest_w}}}

-- such a child may still be started: a startup child, or another
abbrev pub yet : Bool → Machine → Bool
yet b m = if b then is_init m.state else not (m.fatal || is_immediate m.shutdown) || not (is_not_running m.startup)

-- where a startup child is there, another may be started after it
behind_startup : (m : Machine) → is_not_running m.startup ≡ false → yet false m ≡ true
behind_startup m runs = or_right (not (m.fatal || is_immediate m.shutdown)) (not (is_not_running m.startup)) (ap not runs)

-- and where or_from a crash nor an immediate request stands
unless_told : (m : Machine) → (m.fatal || is_immediate m.shutdown) ≡ false → yet false m ≡ true
unless_told m free = ap (λ (b : Bool). not b || not (is_not_running m.startup)) free

-- ---- a crash

crash_yet : (b : Bool) (m : Machine) (exit : _) → yet b (crash_rule m exit).after ≡ true → yet b m ≡ true
unfolding crash_rule
crash_yet true m exit is = by m.state is
  where
    by : (p : PmState) → is_init (crashed_state p) ≡ true → is_init p ≡ true
    by state.Init is = refl
    by state.Startup is = is
    by state.Run is = is
    by state.StopBackends is = is
    by state.WaitBackends is = is
    by state.Shutdown is = is
    by state.WaitDeadEnd is = is
    by state.NoChildren is = is
crash_yet false m exit is = by m.fatal (is_immediate m.shutdown) m.startup is
  where
    by : (f i : Bool) (st : StartupStatus) → (not ((f || not i) || i) || not (is_not_running (if not f && not i then signalled_of st else st))) ≡ true → (not (f || i) || not (is_not_running st)) ≡ true
    by true i st is = is
    by false true st is = is
    by false false st is = refl

-- after it only a startup child that is there may be followed by another child
crash_ends : (m : Machine) (exit : _) → is_not_running m.startup ≡ true → yet false (crash_rule m exit).after ≡ false
unfolding crash_rule
crash_ends m exit off = by m.fatal (is_immediate m.shutdown) m.startup off
  where
    by : (f i : Bool) (st : StartupStatus) → is_not_running st ≡ true → (not ((f || not i) || i) || not (is_not_running (if not f && not i then signalled_of st else st))) ≡ false
    by true i startup.NotRunning off = refl
    by false true startup.NotRunning off = refl
    by false false startup.NotRunning off = refl
    by f i startup.Running off = absurd (let no_ : false ≡ true = off in cc)
    by f i startup.Signalled off = absurd (let no_ : false ≡ true = off in cc)

crash_starts : (such : Kind → Type 0) (m : Machine) (exit : _) → StartOnly such (crash_rule m exit).acts
unfolding crash_rule
crash_starts such m exit = by (not m.fatal && not (is_immediate m.shutdown))
  where
    by : (b : Bool) → StartOnly such (if b then action.Say (exit_line exit) ∷ action.Say line.TerminatingOthers ∷ action.Quit reason.Crash ∷ [] else [])
    by true = tt
    by false = tt

-- ---- the end of a child

normal_yet : (b : Bool) (cl : Class) (m : Machine) (exit : _) → yet b (unless_normal cl m exit).after ≡ true → yet b m ≡ true
normal_yet b class.Normal m exit is = is
normal_yet b class.Crash m exit is = crash_yet b m exit is
normal_yet b class.StartupFailed m exit is = crash_yet b m exit is

checkpointer_yet : (b : Bool) (cl : Class) (m : Machine) (exit : _) → yet b (checkpointer_exited cl m exit).after ≡ true → yet b m ≡ true
checkpointer_yet true class.Normal m exit is = absurd (let no_ : false ≡ true = is in cc)
checkpointer_yet false class.Normal m exit is = is
checkpointer_yet b class.Crash m exit is = crash_yet b m exit is
checkpointer_yet b class.StartupFailed m exit is = crash_yet b m exit is

startup_yet : (b : Bool) (m : Machine) (exit : _) → is_not_running m.startup ≡ false → yet b (startup_exited m exit).after ≡ true → yet b m ≡ true
unfolding startup_exited
startup_yet false m exit runs is = behind_startup m runs
startup_yet true m exit runs is = by (is_some m.shutdown && (is_exit_0 exit.status || is_exit_1 exit.status)) (is_exit_0 exit.status) (is_startup m.state && is_running m.startup) is
  where
    waits : (p : PmState) → is_init (waiting_state p) ≡ true → is_init p ≡ true
    waits state.Init is = refl
    waits state.Startup is = is
    waits state.Run is = is
    waits state.StopBackends is = is
    waits state.WaitBackends is = is
    waits state.Shutdown is = is
    waits state.WaitDeadEnd is = is
    waits state.NoChildren is = is

    signalled : (p : PmState) → is_init (signalled_state p) ≡ true → is_init p ≡ true
    signalled state.Init is = refl
    signalled state.Startup is = is
    signalled state.Run is = is
    signalled state.StopBackends is = is
    signalled state.WaitBackends is = is
    signalled state.Shutdown is = is
    signalled state.WaitDeadEnd is = is
    signalled state.NoChildren is = is

    by : (a b c : Bool) → (let t : Transition = (if a then transition [] (without_startup m (waiting_state m.state))
        else if b then redo_ended m
        else if c then transition (action.Say (exit_line exit) ∷ action.Say line.AbortingStartup ∷ action.End ending.StartupFailed ∷ []) (record (without_startup m m.state) { ended = true })
        else crash_rule (without_startup m (signalled_state m.state)) exit) in is_init t.after.state ≡ true) → is_init m.state ≡ true
    by true b c is = waits m.state is
    by false true c is = absurd (let no_ : false ≡ true = is in cc)
    by false false true is = is
    by false false false is = signalled m.state (crash_yet true (without_startup m (signalled_state m.state)) exit is)

exits_yet : (b : Bool) (k : Kind) (m : Machine) (exit : _) (was_active : Bool) → (k ≡ kind.Startup → is_not_running m.startup ≡ false)
    → yet b (exited_by k m exit was_active).after ≡ true → yet b m ≡ true
exits_yet b kind.Startup m exit was_active runs is = startup_yet b m exit (runs refl) is
exits_yet b kind.Checkpointer m exit was_active runs is = checkpointer_yet b (class_of kind.Checkpointer (is_shutdown m.state) was_active exit.status) (less_one kind.Checkpointer m) exit is
exits_yet b kind.Writer m exit was_active runs is = normal_yet b (class_of kind.Writer (is_shutdown m.state) was_active exit.status) (less_one kind.Writer m) exit is
exits_yet b kind.Worker m exit was_active runs is = normal_yet b (class_of kind.Worker (is_shutdown m.state) was_active exit.status) (less_one kind.Worker m) exit is
exits_yet b kind.Backend m exit was_active runs is = normal_yet b (class_of kind.Backend (is_shutdown m.state) was_active exit.status) (less_one kind.Backend m) exit is
exits_yet b kind.DeadEnd m exit was_active runs is = normal_yet b (class_of kind.DeadEnd (is_shutdown m.state) was_active exit.status) (less_one kind.DeadEnd m) exit is

-- the end of a child starts others only where it is that of a startup child with code 0
abbrev pub MayFollow : Machine → Status → Kind → Type 0
MayFollow m status kind = (may_start kind m ≡ true) × (is_exit_0 status ≡ true)

normal_starts : (such : Kind → Type 0) (cl : Class) (m : Machine) (exit : _) → StartOnly such (unless_normal cl m exit).acts
normal_starts such class.Normal m exit = tt
normal_starts such class.Crash m exit = crash_starts such m exit
normal_starts such class.StartupFailed m exit = crash_starts such m exit

checkpointer_starts : (such : Kind → Type 0) (cl : Class) (m : Machine) (exit : _) → StartOnly such (checkpointer_exited cl m exit).acts
checkpointer_starts such class.Normal m exit = tt
checkpointer_starts such class.Crash m exit = crash_starts such m exit
checkpointer_starts such class.StartupFailed m exit = crash_starts such m exit

startup_starts_only : (m : Machine) (exit : _) → is_not_running m.startup ≡ false → StartOnly (MayFollow m exit.status) (startup_exited m exit).acts
unfolding startup_exited
startup_starts_only m exit runs = by (is_some m.shutdown && (is_exit_0 exit.status || is_exit_1 exit.status)) (is_exit_0 exit.status) (is_startup m.state && is_running m.startup) refl
  where
    by : (a b c : Bool) → is_exit_0 exit.status ≡ b → StartOnly (MayFollow m exit.status) (if a then transition [] (without_startup m (waiting_state m.state))
        else if b then redo_ended m
        else if c then transition (action.Say (exit_line exit) ∷ action.Say line.AbortingStartup ∷ action.End ending.StartupFailed ∷ []) (record (without_startup m m.state) { ended = true })
        else crash_rule (without_startup m (signalled_state m.state)) exit).acts
    by true b c is = tt
    by false true c is = ((behind_startup m runs, is), ((behind_startup m runs, is), tt))
    by false false true is = tt
    by false false false is = crash_starts (MayFollow m exit.status) (without_startup m (signalled_state m.state)) exit

pub exits_start : (m : Machine) (pid : ℕ) (k : Kind) (status : Status) (was_active : Bool) (now : ℕ) → (k ≡ kind.Startup → is_not_running m.startup ≡ false)
    → StartOnly (MayFollow m status) (acts_of_call m (Exits pid k status was_active now))
exits_start m pid kind.Startup status was_active now runs = startup_starts_only m _ (runs refl)
exits_start m pid kind.Checkpointer status was_active now runs = checkpointer_starts _ (class_of kind.Checkpointer (is_shutdown m.state) was_active status) (less_one kind.Checkpointer m) _
exits_start m pid kind.Writer status was_active now runs = normal_starts _ (class_of kind.Writer (is_shutdown m.state) was_active status) (less_one kind.Writer m) _
exits_start m pid kind.Worker status was_active now runs = normal_starts _ (class_of kind.Worker (is_shutdown m.state) was_active status) (less_one kind.Worker m) _
exits_start m pid kind.Backend status was_active now runs = normal_starts _ (class_of kind.Backend (is_shutdown m.state) was_active status) (less_one kind.Backend m) _
exits_start m pid kind.DeadEnd status was_active now runs = normal_starts _ (class_of kind.DeadEnd (is_shutdown m.state) was_active status) (less_one kind.DeadEnd m) _

-- ---- who is there

at_first : (p : PmState) → is_init p ≡ true → p ≡ state.Init
at_first state.Init is = refl
at_first state.Startup is = absurd (let no_ : false ≡ true = is in cc)
at_first state.Run is = absurd (let no_ : false ≡ true = is in cc)
at_first state.StopBackends is = absurd (let no_ : false ≡ true = is in cc)
at_first state.WaitBackends is = absurd (let no_ : false ≡ true = is in cc)
at_first state.Shutdown is = absurd (let no_ : false ≡ true = is in cc)
at_first state.WaitDeadEnd is = absurd (let no_ : false ≡ true = is in cc)
at_first state.NoChildren is = absurd (let no_ : false ≡ true = is in cc)

tested : (test : Kind → Bool) (k : Kind) (c : Option Child) → test k ≡ true → IsSomeAnd c (λ x. x.kind ≡ k) → IsSomeAnd c (λ x. test x.kind ≡ true)
tested test k None holds is = elim is [ ]
tested test k (Some c) holds is = ap test is ∙ holds

-- the startup child that ends was there
pub startup_runs : (limits : Limits) (m : Machine) (s : Supervisor) (pid : ℕ) (k : Kind) → Facts limits m s → IsSomeAnd (child_of pid s.shared.children) (λ c. c.kind ≡ k)
    → k ≡ kind.Startup → is_not_running m.startup ≡ false
startup_runs limits m s pid k facts there is =
    runs_of (is_not_running m.startup) m.startup_due (count_of is_startup_child s.shared.children)
    (at_least is_startup_child pid s.shared.children (tested is_startup_child k (child_of pid s.shared.children) (ap is_startup_child is) there)) facts.shows.startup

-- where the checkpointer or the writer is there, no startup child is
counted_off : (n : ℕ) (b : Bool) → 1 ≤ n → n ≡ one_if b → b ≡ false → ⊥
counted_off n b low is off = (let none : n ≡ 0 = none_counted n b is off in omega arith)

off_of : (st : StartupStatus) (m : Machine) → (is_not_running st ≡ false → ⊥) → is_not_running st ≡ true
off_of startup.NotRunning m never = refl
off_of startup.Running m never = absurd (never refl)
off_of startup.Signalled m never = absurd (never refl)

-- An auxiliary child that died: none of its kind may be started any more in its generation.
pub exits_spoil : (limits : Limits) (m : Machine) (s : Supervisor) (pid : ℕ) (k : Kind) (status : Status) (was_active : Bool) (now : ℕ) → Facts limits m s → IsSomeAnd (child_of pid s.shared.children) (λ c. c.kind ≡ k)
    → is_auxiliary k ≡ true → is_exit_0 status ≡ false → may_start k (machine_after m (Exits pid k status was_active now)) ≡ false
exits_spoil limits m s pid kind.Startup status was_active now facts there aux died = by_test (is_init (machine_after m (Exits pid kind.Startup status was_active now)).state)
    (λ is. let first : m.state ≡ state.Init = at_first m.state (startup_yet true m _ (startup_runs limits m s pid kind.Startup facts there refl) is) in
    let holds = subst (λ (p : PmState). HoldsIn p m s.shared.noticed s.shared.is_open) first facts.in_state in
    absurd (let no_ : true ≡ false = sym (ap is_not_running holds.0.startup) ∙ startup_runs limits m s pid kind.Startup facts there refl in cc))
    (λ isnt. isnt)
exits_spoil limits m s pid kind.Checkpointer status was_active now facts there aux died =
    let off : is_not_running m.startup ≡ true = off_of m.startup m (λ runs. counted_off (count_of is_checkpointer s.shared.children) m.checkpointer
    (at_least is_checkpointer pid s.shared.children (tested is_checkpointer kind.Checkpointer (child_of pid s.shared.children) refl there)) facts.shows.checkpointer (alone_of m.startup m runs facts.alone).0) in
    by (is_exit_0 status) died off
  where
    by : (b : Bool) → b ≡ false → is_not_running m.startup ≡ true → yet false (checkpointer_exited (if b && is_shutdown m.state then class.Normal else class.Crash) (less_one kind.Checkpointer m) (record { pid = pid; kind = kind.Checkpointer; status = status; now = now })).after ≡ false
    by true isnt off = absurd (let no_ : true ≡ false = isnt in cc)
    by false isnt off = crash_ends (less_one kind.Checkpointer m) _ off
exits_spoil limits m s pid kind.Writer status was_active now facts there aux died =
    let off : is_not_running m.startup ≡ true = off_of m.startup m (λ runs. counted_off (count_of is_writer s.shared.children) m.writer
    (at_least is_writer pid s.shared.children (tested is_writer kind.Writer (child_of pid s.shared.children) refl there)) facts.shows.writer (alone_of m.startup m runs facts.alone).1) in
    by (is_exit_0 status) died off
  where
    by : (b : Bool) → b ≡ false → is_not_running m.startup ≡ true → yet false (unless_normal (if b then class.Normal else class.Crash) (less_one kind.Writer m) (record { pid = pid; kind = kind.Writer; status = status; now = now })).after ≡ false
    by true isnt off = absurd (let no_ : true ≡ false = isnt in cc)
    by false isnt off = crash_ends (less_one kind.Writer m) _ off
exits_spoil limits m s pid kind.Worker status was_active now facts there aux died = absurd (let no_ : false ≡ true = aux in cc)
exits_spoil limits m s pid kind.Backend status was_active now facts there aux died = absurd (let no_ : false ≡ true = aux in cc)
exits_spoil limits m s pid kind.DeadEnd status was_active now facts there aux died = absurd (let no_ : false ≡ true = aux in cc)

-- ---- an accept, a report, a request, the time

accept_yet : (b : Bool) (c : Cac) (m : Machine) → yet b (accepted_as c m) ≡ true → yet b m ≡ true
accept_yet b cac.Ok m is = is
accept_yet b cac.Startup m is = is
accept_yet b cac.Recovery m is = is
accept_yet b cac.Shutdown m is = is
accept_yet b cac.TooMany m is = is

pub report_yet : (b : Bool) (k : Kind) (m : Machine) → yet b (started_as k m) ≡ yet b m
report_yet b kind.Startup m = refl
report_yet b kind.Checkpointer m = refl
report_yet b kind.Writer m = refl
report_yet b kind.Worker m = refl
report_yet b kind.Backend m = refl
report_yet b kind.DeadEnd m = refl

-- where no immediate request stood, one that stands now takes away and adds nothing to the others
weaker : (f i : Bool) (st : StartupStatus) → i ≡ false → (not (f || false) || not (is_not_running st)) ≡ true → (not (f || i) || not (is_not_running st)) ≡ true
weaker f true st isnt is = absurd (let no_ : true ≡ false = isnt in cc)
weaker f false st isnt is = is

told_yet : (f i : Bool) (st : StartupStatus) → (not (f || true) || not (is_not_running (signalled_of st))) ≡ true → (not (f || i) || not (is_not_running st)) ≡ true
told_yet true i startup.NotRunning is = absurd (let no_ : false ≡ true = is in cc)
told_yet false i startup.NotRunning is = absurd (let no_ : false ≡ true = is in cc)
told_yet f i startup.Running is = or_right (not (f || i)) true refl
told_yet f i startup.Signalled is = or_right (not (f || i)) true refl

asked_yet : (b : Bool) (how : Mode) (p : PmState) (m : Machine) (now : ℕ) → m.state ≡ p → is_immediate m.shutdown ≡ false → yet b (asked_in how p (record m { shutdown = Some how }) now).after ≡ true → yet b m ≡ true
asked_yet true mode.Smart state.Run m now at free is = is
asked_yet true mode.Smart state.Startup m now at free is = absurd (let no_ : false ≡ true = is in cc)
asked_yet true mode.Smart state.Init m now at free is = is
asked_yet true mode.Smart state.StopBackends m now at free is = is
asked_yet true mode.Smart state.WaitBackends m now at free is = is
asked_yet true mode.Smart state.Shutdown m now at free is = is
asked_yet true mode.Smart state.WaitDeadEnd m now at free is = is
asked_yet true mode.Smart state.NoChildren m now at free is = is
asked_yet true mode.Fast state.Startup m now at free is = absurd (let no_ : false ≡ true = is in cc)
asked_yet true mode.Fast state.Run m now at free is = absurd (let no_ : false ≡ true = is in cc)
asked_yet true mode.Fast state.Init m now at free is = is
asked_yet true mode.Fast state.StopBackends m now at free is = is
asked_yet true mode.Fast state.WaitBackends m now at free is = is
asked_yet true mode.Fast state.Shutdown m now at free is = is
asked_yet true mode.Fast state.WaitDeadEnd m now at free is = is
asked_yet true mode.Fast state.NoChildren m now at free is = is
asked_yet true mode.Immediate p m now at free is = absurd (let no_ : false ≡ true = is in cc)
asked_yet false mode.Smart state.Run m now at free is = weaker m.fatal (is_immediate m.shutdown) m.startup free is
asked_yet false mode.Smart state.Startup m now at free is = weaker m.fatal (is_immediate m.shutdown) m.startup free is
asked_yet false mode.Smart state.Init m now at free is = weaker m.fatal (is_immediate m.shutdown) m.startup free is
asked_yet false mode.Smart state.StopBackends m now at free is = weaker m.fatal (is_immediate m.shutdown) m.startup free is
asked_yet false mode.Smart state.WaitBackends m now at free is = weaker m.fatal (is_immediate m.shutdown) m.startup free is
asked_yet false mode.Smart state.Shutdown m now at free is = weaker m.fatal (is_immediate m.shutdown) m.startup free is
asked_yet false mode.Smart state.WaitDeadEnd m now at free is = weaker m.fatal (is_immediate m.shutdown) m.startup free is
asked_yet false mode.Smart state.NoChildren m now at free is = weaker m.fatal (is_immediate m.shutdown) m.startup free is
asked_yet false mode.Fast state.Startup m now at free is = weaker m.fatal (is_immediate m.shutdown) m.startup free is
asked_yet false mode.Fast state.Run m now at free is = weaker m.fatal (is_immediate m.shutdown) m.startup free is
asked_yet false mode.Fast state.Init m now at free is = weaker m.fatal (is_immediate m.shutdown) m.startup free is
asked_yet false mode.Fast state.StopBackends m now at free is = weaker m.fatal (is_immediate m.shutdown) m.startup free is
asked_yet false mode.Fast state.WaitBackends m now at free is = weaker m.fatal (is_immediate m.shutdown) m.startup free is
asked_yet false mode.Fast state.Shutdown m now at free is = weaker m.fatal (is_immediate m.shutdown) m.startup free is
asked_yet false mode.Fast state.WaitDeadEnd m now at free is = weaker m.fatal (is_immediate m.shutdown) m.startup free is
asked_yet false mode.Fast state.NoChildren m now at free is = weaker m.fatal (is_immediate m.shutdown) m.startup free is
asked_yet false mode.Immediate p m now at free is = told_yet m.fatal (is_immediate m.shutdown) m.startup is

requested_yet : (b : Bool) (asked : Option Mode) (m : Machine) (now : ℕ) → ((how : Mode) → asked ≡ Some how → is_immediate m.shutdown ≡ false) → yet b (asked_with asked m now).after ≡ true → yet b m ≡ true
requested_yet b None m now free is = is
requested_yet b (Some how) m now free is = asked_yet b how m.state m now refl (free how refl) is

asked_starts : (such : Kind → Type 0) (how : Mode) (p : PmState) (m : Machine) (now : ℕ) → StartOnly such (asked_in how p m now).acts
asked_starts such mode.Smart state.Run m now = tt
asked_starts such mode.Smart state.Startup m now = tt
asked_starts such mode.Smart state.Init m now = tt
asked_starts such mode.Smart state.StopBackends m now = tt
asked_starts such mode.Smart state.WaitBackends m now = tt
asked_starts such mode.Smart state.Shutdown m now = tt
asked_starts such mode.Smart state.WaitDeadEnd m now = tt
asked_starts such mode.Smart state.NoChildren m now = tt
asked_starts such mode.Fast state.Startup m now = tt
asked_starts such mode.Fast state.Run m now = tt
asked_starts such mode.Fast state.Init m now = tt
asked_starts such mode.Fast state.StopBackends m now = tt
asked_starts such mode.Fast state.WaitBackends m now = tt
asked_starts such mode.Fast state.Shutdown m now = tt
asked_starts such mode.Fast state.WaitDeadEnd m now = tt
asked_starts such mode.Fast state.NoChildren m now = tt
asked_starts such mode.Immediate p m now = tt

requested_starts : (such : Kind → Type 0) (asked : Option Mode) (m : Machine) (now : ℕ) → StartOnly such (asked_with asked m now).acts
requested_starts such None m now = tt
requested_starts such (Some how) m now = asked_starts such how m.state (record m { shutdown = Some how }) now

ticked_yet : (b : Bool) (since : Option ℕ) (m : Machine) (now : ℕ) → yet b (ticked_at since m now).after ≡ true → yet b m ≡ true
ticked_yet b None m now is = is
ticked_yet b (Some at) m now is = both (nat_le (at + 5000) now && (m.fatal || is_immediate m.shutdown)) is
  where
    both : (c : Bool) → yet b (if c then transition (action.KillAll ∷ []) (record m { abort_at = None }) else transition [] m).after ≡ true → yet b m ≡ true
    both true is = is
    both false is = is

ticked_starts : (such : Kind → Type 0) (since : Option ℕ) (m : Machine) (now : ℕ) → StartOnly such (ticked_at since m now).acts
ticked_starts such None m now = tt
ticked_starts such (Some at) m now = both (nat_le (at + 5000) now && (m.fatal || is_immediate m.shutdown))
  where
    both : (c : Bool) → StartOnly such (if c then transition (action.KillAll ∷ []) (record m { abort_at = None }) else transition [] m).acts
    both true = tt
    both false = tt

-- ---- a turn

start_yet : (b : Bool) (p : PmState) (m : Machine) → (p ≡ state.Init → yet false m ≡ true) → yet b (start_recovery_in p m).after ≡ true → yet b m ≡ true
start_yet true state.Init m first is = absurd (let no_ : false ≡ true = is in cc)
start_yet false state.Init m first is = first refl
start_yet b state.Startup m first is = is
start_yet b state.Run m first is = is
start_yet b state.StopBackends m first is = is
start_yet b state.WaitBackends m first is = is
start_yet b state.Shutdown m first is = is
start_yet b state.WaitDeadEnd m first is = is
start_yet b state.NoChildren m first is = is

writer_yet : (b : Bool) (p : PmState) (m : Machine) → yet b (restart_writer_in p m).after ≡ true → yet b m ≡ true
writer_yet b state.Init m is = is
writer_yet b state.Startup m is = is
writer_yet b state.StopBackends m is = is
writer_yet b state.WaitBackends m is = is
writer_yet b state.Shutdown m is = is
writer_yet b state.WaitDeadEnd m is = is
writer_yet b state.NoChildren m is = is
writer_yet b state.Run m is = by (m.conns && not m.writer) is
  where
    by : (c : Bool) → yet b (if c then transition (action.Start kind.Writer ∷ []) (record m { writer_due = true }) else transition [] m).after ≡ true → yet b m ≡ true
    by true is = is
    by false is = is

-- a rule that moves the state alone, to one that isn't the first
moved_yet : (b : Bool) (p : PmState) (m : Machine) → is_init p ≡ false → yet b (record m { state = p }) ≡ true → yet b m ≡ true
moved_yet true p m off is = absurd (let no_ : false ≡ true = sym off ∙ is in cc)
moved_yet false p m off is = is

smart_yet : (b : Bool) (p : PmState) (m : Machine) → yet b (end_smart_in p m).after ≡ true → yet b m ≡ true
smart_yet b state.Init m is = is
smart_yet b state.Startup m is = is
smart_yet b state.StopBackends m is = is
smart_yet b state.WaitBackends m is = is
smart_yet b state.Shutdown m is = is
smart_yet b state.WaitDeadEnd m is = is
smart_yet b state.NoChildren m is = is
smart_yet b state.Run m is = by (not m.conns && (m.children == 0)) is
  where
    by : (c : Bool) → yet b (if c then transition [] (record m { state = state.StopBackends }) else transition [] m).after ≡ true → yet b m ≡ true
    by true is = moved_yet b state.StopBackends m refl is
    by false is = is

stop_yet : (b : Bool) (p : PmState) (m : Machine) → yet b (stop_backends_in p m).after ≡ true → yet b m ≡ true
stop_yet b state.Init m is = is
stop_yet b state.Startup m is = is
stop_yet b state.Run m is = is
stop_yet b state.StopBackends m is = moved_yet b state.WaitBackends m refl is
stop_yet b state.WaitBackends m is = is
stop_yet b state.Shutdown m is = is
stop_yet b state.WaitDeadEnd m is = is
stop_yet b state.NoChildren m is = is

backends_yet : (b : Bool) (p : PmState) (m : Machine) → yet b (backends_gone_in p m).after ≡ true → yet b m ≡ true
backends_yet b state.Init m is = is
backends_yet b state.Startup m is = is
backends_yet b state.Run m is = is
backends_yet b state.StopBackends m is = is
backends_yet b state.Shutdown m is = is
backends_yet b state.WaitDeadEnd m is = is
backends_yet b state.NoChildren m is = is
backends_yet b state.WaitBackends m is = by (not (are_backends_gone m)) (m.fatal || is_immediate m.shutdown) m.checkpointer is
  where
    by : (c d e : Bool) → yet b (if c then transition [] m
        else if d
        then (if e then transition [] m else transition [] (record m { state = state.WaitDeadEnd }))
        else if e then transition (action.AskCheckpoint ∷ []) (record m { state = state.Shutdown })
        else transition
        (action.Start kind.Checkpointer ∷ action.AskCheckpoint ∷ [])
        (record m { checkpointer_due = true; state = state.Shutdown })).after ≡ true → yet b m ≡ true
    by true d e is = is
    by false true true is = is
    by false true false is = moved_yet b state.WaitDeadEnd m refl is
    by false false true is = moved_yet b state.Shutdown m refl is
    by false false false is = moved_yet b state.Shutdown m refl is

dead_yet : (b : Bool) (p : PmState) (m : Machine) → yet b (dead_ends_gone_in p m).after ≡ true → yet b m ≡ true
dead_yet b state.Init m is = is
dead_yet b state.Startup m is = is
dead_yet b state.Run m is = is
dead_yet b state.StopBackends m is = is
dead_yet b state.WaitBackends m is = is
dead_yet b state.Shutdown m is = is
dead_yet b state.NoChildren m is = is
dead_yet b state.WaitDeadEnd m is = by (are_backends_gone m && not m.checkpointer && (m.dead_ends == 0)) is
  where
    by : (c : Bool) → yet b (if c then transition [] (record m { state = state.NoChildren }) else transition [] m).after ≡ true → yet b m ≡ true
    by true is = moved_yet b state.NoChildren m refl is
    by false is = is

children_yet : (b : Bool) (p : PmState) (m : Machine) → renews (children_gone_in p m).acts ≡ false → yet b (children_gone_in p m).after ≡ true → yet b m ≡ true
children_yet b state.Init m none is = is
children_yet b state.Startup m none is = is
children_yet b state.Run m none is = is
children_yet b state.StopBackends m none is = is
children_yet b state.WaitBackends m none is = is
children_yet b state.Shutdown m none is = is
children_yet b state.WaitDeadEnd m none is = is
children_yet b state.NoChildren m none is = by (is_some m.shutdown && m.fatal) (is_some m.shutdown) (not m.limits.restart_after_crash) none is
  where
    by : (c d e : Bool) → (let t : Transition = (if c
        then transition (action.Say line.Abnormal ∷ action.End ending.AfterCrash ∷ []) (record m { ended = true })
        else if d
        then transition (action.Say line.Down ∷ action.End ending.Clean ∷ []) (record m { ended = true })
        else if e
        then transition (action.Say line.RestartOff ∷ action.End ending.RestartOff ∷ []) (record m { ended = true })
        else transition
        (action.Say line.Reinitializing ∷ action.Reset ∷ action.Start kind.Startup ∷ [])
        (record (startup_starts m) { abort_at = None })) in renews t.acts ≡ false → yet b t.after ≡ true → yet b m ≡ true)
    by true d e none is = is
    by false true e none is = is
    by false false true none is = is
    by false false false none is = absurd (let no_ : true ≡ false = none in cc)

renews-last : (xs ys : List Action) → renews (xs ++ ys) ≡ false → renews ys ≡ false
renews-last [] ys none = none
renews-last (action.Start k ∷ xs) ys none = renews-last xs ys none
renews-last (action.Quit why ∷ xs) ys none = renews-last xs ys none
renews-last (action.Terminate ∷ xs) ys none = renews-last xs ys none
renews-last (action.KillAll ∷ xs) ys none = renews-last xs ys none
renews-last (action.AskCheckpoint ∷ xs) ys none = renews-last xs ys none
renews-last (action.Ready ∷ xs) ys none = renews-last xs ys none
renews-last (action.Reset ∷ xs) ys none = absurd (let no_ : true ≡ false = none in cc)
renews-last (action.Say l ∷ xs) ys none = renews-last xs ys none
renews-last (action.End how ∷ xs) ys none = renews-last xs ys none

turn_yet : (b : Bool) (m : Machine) → (m.state ≡ state.Init → yet false m ≡ true) → renews (turned_of m).acts ≡ false → yet b (turned_of m).after ≡ true → yet b m ≡ true
unfolding turned_of start_recovery restart_writer end_smart stop_backends backends_gone dead_ends_gone children_gone
turn_yet b m first none is =
    let t1 : Transition = start_recovery m in
    let t2 : Transition = restart_writer t1.after in
    let t3 : Transition = end_smart t2.after in
    let t4 : Transition = stop_backends t3.after in
    let t5 : Transition = backends_gone t4.after in
    let t6 : Transition = dead_ends_gone t5.after in
    start_yet b m.state m first
    (writer_yet b t1.after.state t1.after
    (smart_yet b t2.after.state t2.after
    (stop_yet b t3.after.state t3.after
    (backends_yet b t4.after.state t4.after
    (dead_yet b t5.after.state t5.after
    (children_yet b t6.after.state t6.after (renews-last (((((t1.acts ++ t2.acts) ++ t3.acts) ++ t4.acts) ++ t5.acts) ++ t6.acts) (children_gone t6.after).acts none) is))))))

-- which children it starts

children_start : (such : Kind → Type 0) (p : PmState) (m : Machine) → StartOnly such (children_gone_in p m).acts
children_start such state.Init m = tt
children_start such state.Startup m = tt
children_start such state.Run m = tt
children_start such state.StopBackends m = tt
children_start such state.WaitBackends m = tt
children_start such state.Shutdown m = tt
children_start such state.WaitDeadEnd m = tt
children_start such state.NoChildren m = by (is_some m.shutdown && m.fatal) (is_some m.shutdown) (not m.limits.restart_after_crash)
  where
    by : (a b c : Bool) → StartOnly such (if a
        then transition (action.Say line.Abnormal ∷ action.End ending.AfterCrash ∷ []) (record m { ended = true })
        else if b
        then transition (action.Say line.Down ∷ action.End ending.Clean ∷ []) (record m { ended = true })
        else if c
        then transition (action.Say line.RestartOff ∷ action.End ending.RestartOff ∷ []) (record m { ended = true })
        else transition
        (action.Say line.Reinitializing ∷ action.Reset ∷ action.Start kind.Startup ∷ [])
        (record (startup_starts m) { abort_at = None })).acts
    by true b c = tt
    by false true c = tt
    by false false true = tt
    by false false false = tt

dead_start : (such : Kind → Type 0) (p : PmState) (m : Machine) → StartOnly such (rest3 (inside p m))
unfolding dead_ends_gone children_gone
dead_start such state.Init m = tt
dead_start such state.Startup m = tt
dead_start such state.Run m = tt
dead_start such state.StopBackends m = tt
dead_start such state.WaitBackends m = tt
dead_start such state.Shutdown m = tt
dead_start such state.NoChildren m = children_start such state.NoChildren (inside state.NoChildren m)
dead_start such state.WaitDeadEnd m = by (are_backends_gone m && not m.checkpointer && (m.dead_ends == 0))
  where
    by : (b : Bool) → (let t : Transition = (if b then transition [] (record (inside state.WaitDeadEnd m) { state = state.NoChildren }) else transition [] (inside state.WaitDeadEnd m)) in StartOnly such (t.acts ++ (children_gone t.after).acts))
    by true = children_start such state.NoChildren (inside state.NoChildren m)
    by false = tt

-- the checkpointer is started where or_from a crash nor an immediate request stands
abbrev MayCheckpoint : (Kind → Type 0) → Machine → Type 0
MayCheckpoint such m = (m.fatal || is_immediate m.shutdown) ≡ false → such kind.Checkpointer

backends_start : (such : Kind → Type 0) (p : PmState) (m : Machine) → MayCheckpoint such m → StartOnly such (rest2 (inside p m))
unfolding backends_gone dead_ends_gone children_gone
backends_start such state.Init m may = tt
backends_start such state.Startup m may = tt
backends_start such state.Run m may = tt
backends_start such state.StopBackends m may = tt
backends_start such state.Shutdown m may = tt
backends_start such state.NoChildren m may = dead_start such state.NoChildren m
backends_start such state.WaitDeadEnd m may = dead_start such state.WaitDeadEnd m
backends_start such state.WaitBackends m may = by (not (are_backends_gone m)) (m.fatal || is_immediate m.shutdown) m.checkpointer refl
  where
    by : (a b c : Bool) → (m.fatal || is_immediate m.shutdown) ≡ b → (let t : Transition = (if a then transition [] (inside state.WaitBackends m)
        else if b
        then (if c then transition [] (inside state.WaitBackends m) else transition [] (record (inside state.WaitBackends m) { state = state.WaitDeadEnd }))
        else if c then transition (action.AskCheckpoint ∷ []) (record (inside state.WaitBackends m) { state = state.Shutdown })
        else transition
        (action.Start kind.Checkpointer ∷ action.AskCheckpoint ∷ [])
        (record (inside state.WaitBackends m) { checkpointer_due = true; state = state.Shutdown })) in StartOnly such (t.acts ++ rest3 t.after))
    by true b c is = tt
    by false true true is = tt
    by false true false is = dead_start such state.WaitDeadEnd m
    by false false true is = tt
    by false false false is = (may is, tt)

stop_start : (such : Kind → Type 0) (p : PmState) (m : Machine) → MayCheckpoint such m → StartOnly such (rest1 (inside p m))
unfolding stop_backends backends_gone dead_ends_gone children_gone
stop_start such state.Init m may = tt
stop_start such state.Startup m may = tt
stop_start such state.Run m may = tt
stop_start such state.StopBackends m may = backends_start such state.WaitBackends m may
stop_start such state.WaitBackends m may = backends_start such state.WaitBackends m may
stop_start such state.Shutdown m may = tt
stop_start such state.WaitDeadEnd m may = backends_start such state.WaitDeadEnd m may
stop_start such state.NoChildren m may = backends_start such state.NoChildren m may

smart_start : (such : Kind → Type 0) (p : PmState) (m : Machine) → MayCheckpoint such m → StartOnly such (rest0 (inside p m))
unfolding end_smart stop_backends backends_gone dead_ends_gone children_gone
smart_start such state.Init m may = tt
smart_start such state.Startup m may = tt
smart_start such state.StopBackends m may = stop_start such state.StopBackends m may
smart_start such state.WaitBackends m may = stop_start such state.WaitBackends m may
smart_start such state.Shutdown m may = tt
smart_start such state.WaitDeadEnd m may = stop_start such state.WaitDeadEnd m may
smart_start such state.NoChildren m may = stop_start such state.NoChildren m may
smart_start such state.Run m may = by (not m.conns && (m.children == 0))
  where
    by : (b : Bool) → (let t : Transition = (if b then transition [] (record (inside state.Run m) { state = state.StopBackends }) else transition [] (inside state.Run m)) in StartOnly such (t.acts ++ rest1 t.after))
    by true = stop_start such state.StopBackends m may
    by false = tt

writer_start : (such : Kind → Type 0) (p : PmState) (m : Machine) → MayCheckpoint such m → (p ≡ state.Run → such kind.Writer) → StartOnly such (rest_w (inside p m))
unfolding restart_writer end_smart stop_backends backends_gone dead_ends_gone children_gone
writer_start such state.Init m may serves = tt
writer_start such state.Startup m may serves = tt
writer_start such state.StopBackends m may serves = smart_start such state.StopBackends m may
writer_start such state.WaitBackends m may serves = smart_start such state.WaitBackends m may
writer_start such state.Shutdown m may serves = tt
writer_start such state.WaitDeadEnd m may serves = smart_start such state.WaitDeadEnd m may
writer_start such state.NoChildren m may serves = smart_start such state.NoChildren m may
writer_start such state.Run m may serves = by (m.conns && not m.writer)
  where
    by : (b : Bool) → (let t : Transition = (if b then transition (action.Start kind.Writer ∷ []) (record (inside state.Run m) { writer_due = true }) else transition [] (inside state.Run m)) in StartOnly such (t.acts ++ rest0 t.after))
    by true = (serves refl, smart_start such state.Run (record m { writer_due = true }) may)
    by false = smart_start such state.Run m may

start_start : (such : Kind → Type 0) (p : PmState) (m : Machine) → MayCheckpoint such m → (p ≡ state.Run → such kind.Writer) → (p ≡ state.Init → such kind.Startup) → StartOnly such (rest_s (inside p m))
unfolding start_recovery restart_writer end_smart stop_backends backends_gone dead_ends_gone children_gone
start_start such state.Init m may serves first = (first refl, tt)
start_start such state.Startup m may serves first = tt
start_start such state.Run m may serves first = writer_start such state.Run m may serves
start_start such state.StopBackends m may serves first = writer_start such state.StopBackends m may serves
start_start such state.WaitBackends m may serves first = writer_start such state.WaitBackends m may serves
start_start such state.Shutdown m may serves first = tt
start_start such state.WaitDeadEnd m may serves first = writer_start such state.WaitDeadEnd m may serves
start_start such state.NoChildren m may serves first = writer_start such state.NoChildren m may serves

turn_starts : (limits : Limits) (m : Machine) (s : Supervisor) → Facts limits m s → StartOnly (λ k. may_start k m ≡ true) (turned_of m).acts
turn_starts limits m s facts =
    subst (StartOnly (λ k. may_start k m ≡ true)) (sym (in_order m))
    (start_start (λ k. may_start k m ≡ true) m.state m (unless_told m)
    (λ is. let holds = subst (λ (p : PmState). HoldsIn p m s.shared.noticed s.shared.is_open) is facts.in_state in
    unless_told m (or_from m.fatal (is_immediate m.shutdown) holds.5 holds.8))
    (λ is. ap is_init is))

-- ---- each call

-- at first nothing has happened yet
at_first_yet : (limits : Limits) (m : Machine) (s : Supervisor) → Facts limits m s → m.state ≡ state.Init → yet false m ≡ true
at_first_yet limits m s facts is =
    let holds = subst (λ (p : PmState). HoldsIn p m s.shared.noticed s.shared.is_open) is facts.in_state in
    unless_told m (or_from m.fatal (is_immediate m.shutdown) holds.3 (sym facts.stop ∙ ap is_stop_reason holds.1))

-- a child that ends is there
abbrev pub EndsOne : Trace → Call → Type 0
EndsOne h (Exits pid k status was_active now) = IsSomeAnd (child_of pid h.now.shared.children) (λ c. c.kind ≡ k)
EndsOne h _ = Unit {0}

-- what may be started after a call with no next generation might be before it
pub call_yet : (limits : Limits) (m : Machine) (h : Trace) (call : Call) (kind : Kind) → Facts limits m h.now → EndsOne h call
    → renews (acts_of_call m call) ≡ false → may_start kind (machine_after m call) ≡ true → may_start kind m ≡ true
call_yet limits m h (Accepts pid) kind facts there none is = accept_yet (is_startup_child kind) (decide_of (view_of m)) m is
call_yet limits m h (Starts pid k) kind facts there none is = sym (report_yet (is_startup_child kind) k m) ∙ is
call_yet limits m h (Exits pid k status was_active now) kind facts there none is =
    exits_yet (is_startup_child kind) k m _ was_active (startup_runs limits m h.now pid k facts there) is
call_yet limits m h (Asks how now) kind facts there none is = requested_yet (is_startup_child kind) (strengthen_of m.shutdown how) m now (strengthens m.shutdown how) is
call_yet limits m h (Ticks now) kind facts there none is = ticked_yet (is_startup_child kind) m.abort_at m now is
call_yet limits m h TakesTurn kind facts there none is = turn_yet (is_startup_child kind) m (at_first_yet limits m h.now facts) none is
call_yet limits m h (Attaches pid reserve) kind facts there none is = is
call_yet limits m h (Touches pid) kind facts there none is = is
call_yet limits m h (Detaches pid) kind facts there none is = is

pub only_also : (such also : Kind → Type 0) (acts : List Action) → ((k : Kind) → such k → also k) → StartOnly such acts → StartOnly also acts
only_also such also [] weaken only = tt
only_also such also (action.Start k ∷ acts) weaken only = (weaken k only.0, only_also such also acts weaken only.1)
only_also such also (action.Quit why ∷ acts) weaken only = only_also such also acts weaken only
only_also such also (action.Terminate ∷ acts) weaken only = only_also such also acts weaken only
only_also such also (action.KillAll ∷ acts) weaken only = only_also such also acts weaken only
only_also such also (action.AskCheckpoint ∷ acts) weaken only = only_also such also acts weaken only
only_also such also (action.Ready ∷ acts) weaken only = only_also such also acts weaken only
only_also such also (action.Reset ∷ acts) weaken only = tt
only_also such also (action.Say l ∷ acts) weaken only = only_also such also acts weaken only
only_also such also (action.End how ∷ acts) weaken only = only_also such also acts weaken only

-- a call starts such children alone
pub call_starts : (limits : Limits) (m : Machine) (h : Trace) (call : Call) → Facts limits m h.now → EndsOne h call → StartOnly (λ k. may_start k m ≡ true) (acts_of_call m call)
call_starts limits m h (Accepts pid) facts there = tt
call_starts limits m h (Starts pid k) facts there = tt
call_starts limits m h (Exits pid k status was_active now) facts there =
    only_also _ (λ j. may_start j m ≡ true) (acts_of_call m (Exits pid k status was_active now)) (λ j both. both.0) (exits_start m pid k status was_active now (startup_runs limits m h.now pid k facts there))
call_starts limits m h (Asks how now) facts there = requested_starts _ (strengthen_of m.shutdown how) m now
call_starts limits m h (Ticks now) facts there = ticked_starts _ m.abort_at m now
call_starts limits m h TakesTurn facts there = turn_starts limits m h.now facts
call_starts limits m h (Attaches pid reserve) facts there = tt
call_starts limits m h (Touches pid) facts there = tt
call_starts limits m h (Detaches pid) facts there = tt
