-- The acts that a call asks for, and the gate.
use Rattle.std.{proofs.Common.{◌≡◌, ℕ, ◌+◌, ◌≤◌, List, [], ◌∷◌, refl, sym, ap, subst, ◌∙◌, arith, nat_eq}, specs.Prelude.{nat_le, Bool, true, false, not, ◌==◌, ◌&&◌, ◌||◌, if◌then◌else◌, Option, Some, None, is_some, IsSomeAnd}}
use Rattle.pm_board.specs.{pm_exit.{declared.child.{Kind.Kind, Class.Class}, Ends.{class_of, is_exit_0, is_exit_1}}, Gate.Gate}
use Rattle.pm_board.specs.pm_exit.declared.child.Kind.TheVariants as kind
use Rattle.pm_board.specs.pm_exit.declared.child.Class.TheVariants as class
use Rattle.pm_state.specs.{pm_modes.{declared.Mode.Mode, Strength.is_immediate}, pm_admit.{declared.PmState.PmState, Admission.is_startup}, declared.machine.{Machine.Machine, StartupStatus.StartupStatus}, Transition.transition, Exits.{redo_ended, waiting_state, exit_line, crash_rule, unless_normal, startup_exited, checkpointer_exited, exited_by, less_one, without_startup, signalled_state, is_running, is_shutdown}, Requests.{asked_in, asked_with, ticked_at}, TurnRules.is_not_running, Facts.{Facts, IsAlone, is_stop_reason}}
use Rattle.pm_state.specs.pm_modes.declared.Mode.TheVariants as mode
use Rattle.pm_state.specs.pm_admit.declared.PmState.TheVariants as state
use Rattle.pm_supervisor.{specs.{declared.{Limits.Limits, Reason.Reason}, Children.{Child, child_of, count_of, one_if, is_startup_child, is_checkpointer, is_writer}, Supervisor.Supervisor}, proofs.CountLaws.none_counted}
use Rattle.pm_supervisor.specs.declared.Reason.TheVariants as reason
use Rattle.pm_supervisor.specs.declared.Ending.TheVariants as ending
use Rattle.pm_state.specs.declared.action.Action.TheVariants as action
use Rattle.pm_state.specs.declared.action.Line.TheVariants as line
use Rattle.pm_state.specs.declared.machine.StartupStatus.TheVariants as startup
use Rattle.pm_supervisor_journal.specs.{declared.roll.Enrolled.Enrolled, Roll.{roll_of, without}}
use Rattle.pm_board_acts.specs.Acts.{MayDo, NoneIs, gate_shown}

-- ---- who is there

pub none_of_them : (kind : Kind) (test : Kind → Bool) → test kind ≡ true → (cs : List Child) → count_of test cs ≡ 0 → NoneIs kind (roll_of cs)
none_of_them kind test is [] none = tt
none_of_them kind test is (c ∷ cs) none =
    let off : test c.kind ≡ false = by (test c.kind) none in
    ((λ same. let no_ : false ≡ true = sym off ∙ (ap test same ∙ is) in absurd (cc)), none_of_them kind test is cs (rest (test c.kind) off none))
  where
    by : (b : Bool) → one_if b + count_of test cs ≡ 0 → b ≡ false
    by true e = absurd (omega arith)
    by false e = refl

    rest : (b : Bool) → b ≡ false → one_if b + count_of test cs ≡ 0 → count_of test cs ≡ 0
    rest true isnt e = absurd (omega arith)
    rest false isnt e = omega arith

none_without : (kind : Kind) (pid : ℕ) (roll : List Enrolled) → NoneIs kind roll → NoneIs kind (without pid roll)
none_without kind pid [] none = tt
none_without kind pid (c ∷ cs) none = both (c.pid == pid) (none_without kind pid cs none.1)
  where
    both : (b : Bool) → NoneIs kind (without pid cs) → NoneIs kind (if b then cs else c ∷ without pid cs)
    both true rest = none.1
    both false rest = (none.0, rest)

-- ---- a crash

stop_is : (noticed : Option Reason) → noticed ≡ Some reason.Stop → is_stop_reason noticed ≡ true
stop_is noticed is = ap is_stop_reason is

crash_may : (m : Machine) (exit : _) (gate : Gate) (roll : List Enrolled) → is_stop_reason gate.noticed ≡ is_immediate m.shutdown → MayDo (crash_rule m exit).acts gate roll
unfolding crash_rule
crash_may m exit gate roll stop = by m.fatal (is_immediate m.shutdown) refl
  where
    by : (f i : Bool) → is_immediate m.shutdown ≡ i → MayDo (if not f && not i then action.Say (exit_line exit) ∷ action.Say line.TerminatingOthers ∷ action.Quit reason.Crash ∷ [] else []) gate roll
    by true i is = tt
    by false true is = tt
    by false false is = ((λ noticed. let no_ : true ≡ false = sym (stop_is gate.noticed noticed) ∙ (stop ∙ is) in absurd (cc)), tt)

-- ---- the end of a child

pub at_least : (test : Kind → Bool) (pid : ℕ) (cs : List Child) → IsSomeAnd (child_of pid cs) (λ x. test x.kind ≡ true) → 1 ≤ count_of test cs
at_least test pid [] there = elim there [ ]
at_least test pid (c ∷ cs) there = by (nat_eq c.pid pid) refl (at_least test pid cs)
  where
    one : (b : Bool) → b ≡ true → 1 ≤ one_if b + count_of test cs
    one true is = omega arith
    one false is = absurd (let no_ : false ≡ true = is in cc)

    by : (b : Bool) → nat_eq c.pid pid ≡ b → (IsSomeAnd (child_of pid cs) (λ x. test x.kind ≡ true) → 1 ≤ count_of test cs) → 1 ≤ one_if (test c.kind) + count_of test cs
    by true is rest = one (test c.kind) (subst (λ (b : Bool). IsSomeAnd (if b then Some c else child_of pid cs) (λ x. test x.kind ≡ true)) is there)
    by false isnt rest = let low : 1 ≤ count_of test cs = rest (subst (λ (b : Bool). IsSomeAnd (if b then Some c else child_of pid cs) (λ x. test x.kind ≡ true)) isnt there) in omega arith

only_one : (kind : Kind) (test : Kind → Bool) → test kind ≡ true → (pid : ℕ) (cs : List Child) → IsSomeAnd (child_of pid cs) (λ x. test x.kind ≡ true) → count_of test cs ≤ 1
    → NoneIs kind (without pid (roll_of cs))
only_one kind test is pid [] there few = tt
only_one kind test is pid (c ∷ cs) there few = by (nat_eq c.pid pid) refl (only_one kind test is pid cs)
  where
    zero_rest : (b : Bool) → b ≡ true → one_if b + count_of test cs ≤ 1 → count_of test cs ≡ 0
    zero_rest true is few = omega arith
    zero_rest false is few = absurd (let no_ : false ≡ true = is in cc)

    off : (b : Bool) → 1 ≤ count_of test cs → one_if b + count_of test cs ≤ 1 → b ≡ false
    off true low few = absurd (omega arith)
    off false low few = refl

    fewer : (b : Bool) → one_if b + count_of test cs ≤ 1 → count_of test cs ≤ 1
    fewer true few = omega arith
    fewer false few = omega arith

    by : (b : Bool) → nat_eq c.pid pid ≡ b → (IsSomeAnd (child_of pid cs) (λ x. test x.kind ≡ true) → count_of test cs ≤ 1 → NoneIs kind (without pid (roll_of cs)))
        → NoneIs kind (if b then roll_of cs else record { pid = c.pid; kind = c.kind } ∷ without pid (roll_of cs))
    by true here rest = none_of_them kind test is cs (zero_rest (test c.kind) (subst (λ (b : Bool). IsSomeAnd (if b then Some c else child_of pid cs) (λ x. test x.kind ≡ true)) here there) few)
    by false isnt rest =
        let on : IsSomeAnd (child_of pid cs) (λ x. test x.kind ≡ true) = subst (λ (b : Bool). IsSomeAnd (if b then Some c else child_of pid cs) (λ x. test x.kind ≡ true)) isnt there in
        let differs : test c.kind ≡ false = off (test c.kind) (at_least test pid cs on) few in (
          (λ same. let no_ : false ≡ true = sym differs ∙ (ap test same ∙ is) in absurd (cc)),
          rest on (fewer (test c.kind) few),
        )

pub alone_of : (st : StartupStatus) (m : Machine) → is_not_running st ≡ false → IsAlone st m → (m.checkpointer ≡ false) × (m.writer ≡ false)
alone_of startup.NotRunning m runs alone = absurd (let no_ : true ≡ false = runs in cc)
alone_of startup.Running m runs alone = (alone.1, alone.2)
alone_of startup.Signalled m runs alone = (alone.1, alone.2)

pub runs_of : (b due : Bool) (n : ℕ) → 1 ≤ n → n ≡ one_if (not b && not due) → b ≡ false
runs_of true due n low is = absurd (omega arith)
runs_of false due n low is = refl

at_most : (b : Bool) (n : ℕ) → n ≡ one_if b → n ≤ 1
at_most true n is = omega arith
at_most false n is = omega arith

shut_of : (open_ runs : Bool) → (not open_ || runs) ≡ true → runs ≡ false → open_ ≡ false
shut_of true true is isnt = absurd (let no_ : true ≡ false = isnt in cc)
shut_of true false is isnt = absurd (let no_ : false ≡ true = is in cc)
shut_of false runs is isnt = refl

startup_may : (limits : Limits) (m : Machine) (s : Supervisor) (pid : ℕ) (exit : _) → Facts limits m s → IsSomeAnd (child_of pid s.shared.children) (λ c. is_startup_child c.kind ≡ true)
    → MayDo (startup_exited m exit).acts (gate_shown s.shared) (without pid (roll_of s.shared.children))
unfolding startup_exited
startup_may limits m s pid exit facts there =
    by (is_some m.shutdown && (is_exit_0 exit.status || is_exit_1 exit.status)) (is_exit_0 exit.status) (is_startup m.state && is_running m.startup)
  where
    by : (a b c : Bool) → MayDo (if a then transition [] (without_startup m (waiting_state m.state))
        else if b then redo_ended m
        else if c then transition (action.Say (exit_line exit) ∷ action.Say line.AbortingStartup ∷ action.End ending.StartupFailed ∷ []) (record (without_startup m m.state) { ended = true })
        else crash_rule (without_startup m (signalled_state m.state)) exit).acts (gate_shown s.shared) (without pid (roll_of s.shared.children))
    by true b c = tt
    by false true c =
        let runs : is_not_running m.startup ≡ false = runs_of (is_not_running m.startup) m.startup_due (count_of is_startup_child s.shared.children) (at_least is_startup_child pid s.shared.children there) facts.shows.startup in
        let alone = alone_of m.startup m runs facts.alone in (
          shut_of s.shared.is_open (is_not_running m.startup) facts.opened runs,
          only_one kind.Startup is_startup_child refl pid s.shared.children there (at_most (not (is_not_running m.startup) && not m.startup_due) (count_of is_startup_child s.shared.children) facts.shows.startup),
          (
            refl,
            none_without kind.Checkpointer pid (roll_of s.shared.children) (none_of_them kind.Checkpointer is_checkpointer refl s.shared.children (none_counted (count_of is_checkpointer s.shared.children) m.checkpointer facts.shows.checkpointer alone.0)),
            λ first. (
              refl,
              (
                (λ same. let no_ : kind.Checkpointer ≡ kind.Writer = same in absurd (cc)),
                none_without kind.Writer pid (roll_of s.shared.children) (none_of_them kind.Writer is_writer refl s.shared.children (none_counted (count_of is_writer s.shared.children) m.writer facts.shows.writer alone.1)),
              ),
              λ second. tt,
            ),
          ),
        )
    by false false true = tt
    by false false false = crash_may (without_startup m (signalled_state m.state)) exit (gate_shown s.shared) (without pid (roll_of s.shared.children)) facts.stop

normal_may : (cl : Class) (m : Machine) (exit : _) (gate : Gate) (roll : List Enrolled) → is_stop_reason gate.noticed ≡ is_immediate m.shutdown → MayDo (unless_normal cl m exit).acts gate roll
normal_may class.Normal m exit gate roll stop = tt
normal_may class.Crash m exit gate roll stop = crash_may m exit gate roll stop
normal_may class.StartupFailed m exit gate roll stop = crash_may m exit gate roll stop

checkpointer_may : (cl : Class) (m : Machine) (exit : _) (gate : Gate) (roll : List Enrolled) → is_stop_reason gate.noticed ≡ is_immediate m.shutdown → MayDo (checkpointer_exited cl m exit).acts gate roll
checkpointer_may class.Normal m exit gate roll stop = tt
checkpointer_may class.Crash m exit gate roll stop = crash_may m exit gate roll stop
checkpointer_may class.StartupFailed m exit gate roll stop = crash_may m exit gate roll stop

pub kind_there : (c : Option Child) → IsSomeAnd c (λ x. x.kind ≡ kind.Startup) → IsSomeAnd c (λ x. is_startup_child x.kind ≡ true)
kind_there None is = elim is [ ]
kind_there (Some c) is = ap is_startup_child is

pub exits_may : (limits : Limits) (m : Machine) (s : Supervisor) (pid : ℕ) (kind : Kind) (exit : _) (was_active : Bool) → Facts limits m s → IsSomeAnd (child_of pid s.shared.children) (λ c. c.kind ≡ kind)
    → MayDo (exited_by kind m exit was_active).acts (gate_shown s.shared) (without pid (roll_of s.shared.children))
exits_may limits m s pid kind.Startup exit was_active facts there = startup_may limits m s pid exit facts (kind_there (child_of pid s.shared.children) there)
exits_may limits m s pid kind.Checkpointer exit was_active facts there =
    checkpointer_may (class_of kind.Checkpointer (is_shutdown m.state) was_active exit.status) (less_one kind.Checkpointer m) exit _ _ facts.stop
exits_may limits m s pid kind.Writer exit was_active facts there = normal_may (class_of kind.Writer (is_shutdown m.state) was_active exit.status) (less_one kind.Writer m) exit _ _ facts.stop
exits_may limits m s pid kind.Worker exit was_active facts there = normal_may (class_of kind.Worker (is_shutdown m.state) was_active exit.status) (less_one kind.Worker m) exit _ _ facts.stop
exits_may limits m s pid kind.Backend exit was_active facts there = normal_may (class_of kind.Backend (is_shutdown m.state) was_active exit.status) (less_one kind.Backend m) exit _ _ facts.stop
exits_may limits m s pid kind.DeadEnd exit was_active facts there = normal_may (class_of kind.DeadEnd (is_shutdown m.state) was_active exit.status) (less_one kind.DeadEnd m) exit _ _ facts.stop

-- ---- requests, and the time

asked_may : (how : Mode) (p : PmState) (m : Machine) (now : ℕ) (gate : Gate) (roll : List Enrolled) → MayDo (asked_in how p m now).acts gate roll
asked_may mode.Smart state.Run m now gate roll = tt
asked_may mode.Smart state.Startup m now gate roll = tt
asked_may mode.Smart state.Init m now gate roll = tt
asked_may mode.Smart state.StopBackends m now gate roll = tt
asked_may mode.Smart state.WaitBackends m now gate roll = tt
asked_may mode.Smart state.Shutdown m now gate roll = tt
asked_may mode.Smart state.WaitDeadEnd m now gate roll = tt
asked_may mode.Smart state.NoChildren m now gate roll = tt
asked_may mode.Fast state.Startup m now gate roll = tt
asked_may mode.Fast state.Run m now gate roll = tt
asked_may mode.Fast state.Init m now gate roll = tt
asked_may mode.Fast state.StopBackends m now gate roll = tt
asked_may mode.Fast state.WaitBackends m now gate roll = tt
asked_may mode.Fast state.Shutdown m now gate roll = tt
asked_may mode.Fast state.WaitDeadEnd m now gate roll = tt
asked_may mode.Fast state.NoChildren m now gate roll = tt
asked_may mode.Immediate p m now gate roll = ((λ noticed. refl), tt)

pub requested_may : (asked : Option Mode) (m : Machine) (now : ℕ) (gate : Gate) (roll : List Enrolled) → MayDo (asked_with asked m now).acts gate roll
requested_may None m now gate roll = tt
requested_may (Some how) m now gate roll = asked_may how m.state (record m { shutdown = Some how }) now gate roll

pub ticked_may : (since : Option ℕ) (m : Machine) (now : ℕ) (gate : Gate) (roll : List Enrolled) → MayDo (ticked_at since m now).acts gate roll
ticked_may None m now gate roll = tt
ticked_may (Some at) m now gate roll = both (nat_le (at + 5000) now && (m.fatal || is_immediate m.shutdown))
  where
    both : (b : Bool) → MayDo (if b then transition (action.KillAll ∷ []) (record m { abort_at = None }) else transition [] m).acts gate roll
    both true = tt
    both false = tt
