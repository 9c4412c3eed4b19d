-- Once a shutdown was asked for, few children are still started.
use Rattle.std.{proofs.{Common.{◌≡◌, ◌≢◌, ℕ, ◌+◌, ◌≤◌, Bool, true, false, ◌||◌, nat_eq, List, [], ◌∷◌, ◌++◌, Some, None, refl, ap, sym, ◌∙◌, arith, length}, lemmas.Bool.Decides.nat_tests}, specs.Prelude.{Option, is_some, ◌<◌}}
use Rattle.pm_state.{specs.{pm_admit.declared.Cac.Cac, pm_supervisor.Supervisor.Shared, Known.Known, Machine.{accepted_as, IsCounted}, pm_exit.{declared.child.{Kind.Kind, Class.Class}, Ends.class_of}, pm_modes.{declared.Mode.Mode, Strength.strengthen_of}, declared.{action.Action.Action, machine.Machine.Machine}, Transition.Transition, Exits.{crash_rule, unless_normal, startup_exited, checkpointer_exited, exited_by, less_one, is_shutdown}, Requests.{asked_with, ticked_at}, TurnRules.{start_recovery, restart_writer, end_smart, stop_backends, backends_gone, dead_ends_gone, children_gone, and_then, turned_of}, Journal.last_pid, Starts.starts_in}, proofs.ChildLaws.accepted_shutdown}
use Rattle.pm_state.specs.pm_exit.declared.child.Kind.TheVariants as kind
use Rattle.pm_state.specs.pm_exit.declared.child.Class.TheVariants as class
use Rattle.pm_state.specs.pm_modes.declared.Mode.TheVariants as mode
use Rattle.pm_state.specs.pm_admit.declared.PmState.TheVariants as state
use Rattle.pm_state.specs.declared.action.Action.TheVariants as act
use Rattle.pm_supervisor_journal.specs.{Standing.Standing, Stands.{HasPids, any_kind, highest_pid, starts_left}}

crash-asked : (m : Machine) (exit : _) → is_some m.shutdown ≡ true → is_some (crash_rule m exit).after.shutdown ≡ true
unfolding crash_rule
crash-asked m exit some = some

crash-none : (m : Machine) (exit : _) → starts_in any_kind (crash_rule m exit).acts ≡ 0
unfolding crash_rule
crash-none m exit = grind arith

crash-left : (m : Machine) (exit : _) → starts_left (crash_rule m exit).after ≤ starts_left m
unfolding crash_rule
crash-left m exit = grind arith

startup-spends : (m : Machine) (exit : _) → m.state ≢ state.Shutdown → m.state ≢ state.WaitDeadEnd → m.state ≢ state.NoChildren
    → is_some m.shutdown ≡ true → starts_in any_kind (startup_exited m exit).acts + starts_left (startup_exited m exit).after ≤ starts_left m
unfolding startup_exited crash_rule
startup-spends m exit p q r some = grind arith

startup-asked : (m : Machine) (exit : _) → is_some m.shutdown ≡ true → is_some (startup_exited m exit).after.shutdown ≡ true
unfolding startup_exited crash_rule
startup-asked m exit some = grind arith

pub tick-left : (m : Machine) (at : Option ℕ) (now : ℕ) → starts_in any_kind (ticked_at at m now).acts + starts_left (ticked_at at m now).after ≤ starts_left m
tick-left m at now = grind arith

pub tick-asked : (m : Machine) (at : Option ℕ) (now : ℕ) → (ticked_at at m now).after.shutdown ≡ m.shutdown
tick-asked m at now = grind arith

recovery-left : (m : Machine) → starts_in any_kind (start_recovery m).acts + starts_left (start_recovery m).after ≤ starts_left m
unfolding start_recovery
recovery-left m = grind arith

writer-left : (m : Machine) → (m.state ≡ state.Run → m.conns ≡ false) → starts_in any_kind (restart_writer m).acts + starts_left (restart_writer m).after ≤ starts_left m
unfolding restart_writer
writer-left m closed = grind arith

smart-left : (m : Machine) → starts_in any_kind (end_smart m).acts + starts_left (end_smart m).after ≤ starts_left m
unfolding end_smart
smart-left m = grind arith

stop-left : (m : Machine) → starts_in any_kind (stop_backends m).acts + starts_left (stop_backends m).after ≤ starts_left m
unfolding stop_backends
stop-left m = grind arith

gone-left : (m : Machine) → starts_in any_kind (backends_gone m).acts + starts_left (backends_gone m).after ≤ starts_left m
unfolding backends_gone
gone-left m = grind arith

ends-left : (m : Machine) → starts_in any_kind (dead_ends_gone m).acts + starts_left (dead_ends_gone m).after ≤ starts_left m
unfolding dead_ends_gone
ends-left m = grind arith

children-left : (m : Machine) → is_some m.shutdown ≡ true → starts_in any_kind (children_gone m).acts + starts_left (children_gone m).after ≤ starts_left m
unfolding children_gone
children-left m some = grind arith

-- a turn

starts-append : (xs ys : List Action) → starts_in any_kind (xs ++ ys) ≡ starts_in any_kind xs + starts_in any_kind ys
starts-append [] ys = omega arith
starts-append (act.Start k ∷ xs) ys = omega (arith, starts-append xs ys)
starts-append (act.Quit why ∷ xs) ys = starts-append xs ys
starts-append (act.Terminate ∷ xs) ys = starts-append xs ys
starts-append (act.KillAll ∷ xs) ys = starts-append xs ys
starts-append (act.AskCheckpoint ∷ xs) ys = starts-append xs ys
starts-append (act.Ready ∷ xs) ys = starts-append xs ys
starts-append (act.Reset ∷ xs) ys = starts-append xs ys
starts-append (act.Say line ∷ xs) ys = starts-append xs ys
starts-append (act.End how ∷ xs) ys = starts-append xs ys

abbrev SpendsNoMore : Machine → Transition → Type 0
SpendsNoMore m o = starts_in any_kind o.acts + starts_left o.after ≤ starts_left m

then-spends : (m : Machine) (o : Transition) (rule : Machine → Transition) → SpendsNoMore m o → SpendsNoMore o.after (rule o.after)
    → SpendsNoMore m (and_then o rule)
then-spends m o rule first second = omega (arith, first, second, starts-append o.acts (rule o.after).acts)

recovery-asked : (m : Machine) → (start_recovery m).after.shutdown ≡ m.shutdown
unfolding start_recovery
recovery-asked m = grind arith

recovery-closed : (m : Machine) → (m.state ≡ state.Run → m.conns ≡ false) → (start_recovery m).after.state ≡ state.Run
    → (start_recovery m).after.conns ≡ false
unfolding start_recovery
recovery-closed m closed is = grind arith

writer-asked : (m : Machine) → (restart_writer m).after.shutdown ≡ m.shutdown
unfolding restart_writer
writer-asked m = grind arith

smart-asked : (m : Machine) → (end_smart m).after.shutdown ≡ m.shutdown
unfolding end_smart
smart-asked m = grind arith

stop-asked : (m : Machine) → (stop_backends m).after.shutdown ≡ m.shutdown
unfolding stop_backends
stop-asked m = grind arith

gone-asked : (m : Machine) → (backends_gone m).after.shutdown ≡ m.shutdown
unfolding backends_gone
gone-asked m = grind arith

ends-asked : (m : Machine) → (dead_ends_gone m).after.shutdown ≡ m.shutdown
unfolding dead_ends_gone
ends-asked m = grind arith

children-asked : (m : Machine) → (children_gone m).after.shutdown ≡ m.shutdown
unfolding children_gone
children-asked m = grind arith

abbrev before_last : Machine → Transition
before_last m = and_then (and_then (and_then (and_then (and_then (start_recovery m) restart_writer) end_smart) stop_backends) backends_gone) dead_ends_gone

before-last-asked : (m : Machine) → (before_last m).after.shutdown ≡ m.shutdown
before-last-asked m =
    let a : Machine = (start_recovery m).after in
    let b : Machine = (restart_writer a).after in
    let c : Machine = (end_smart b).after in
    let d : Machine = (stop_backends c).after in
    let e : Machine = (backends_gone d).after in
    ends-asked e ∙ (gone-asked d ∙ (stop-asked c ∙ (smart-asked b ∙ (writer-asked a ∙ recovery-asked m))))

pub turn-asked : (m : Machine) → (turned_of m).after.shutdown ≡ m.shutdown
unfolding turned_of
turn-asked m = children-asked (before_last m).after ∙ before-last-asked m

pub turn-left : (m : Machine) → (m.state ≡ state.Run → m.conns ≡ false) → is_some m.shutdown ≡ true → SpendsNoMore m (turned_of m)
unfolding turned_of
turn-left m closed some =
    let a : Transition = start_recovery m in
    let b : Transition = and_then a restart_writer in
    let c : Transition = and_then b end_smart in
    let d : Transition = and_then c stop_backends in
    let e : Transition = and_then d backends_gone in
    let one : SpendsNoMore m b = then-spends m a restart_writer (recovery-left m) (writer-left a.after (recovery-closed m closed)) in
    let two : SpendsNoMore m c = then-spends m b end_smart one (smart-left b.after) in
    let three : SpendsNoMore m d = then-spends m c stop_backends two (stop-left c.after) in
    let four : SpendsNoMore m e = then-spends m d backends_gone three (gone-left d.after) in
    let five : SpendsNoMore m (before_last m) = then-spends m e dead_ends_gone four (ends-left e.after) in
    then-spends m (before_last m) children_gone five (children-left (before_last m).after (ap is_some (before-last-asked m) ∙ some))

-- a request

pub asked-some : (m : Machine) (asked : Mode) (now : ℕ) → is_some (asked_with (strengthen_of m.shutdown asked) m now).after.shutdown ≡ true
asked-some m asked now = grind arith

pub asked-none : (m : Machine) (asked : Option Mode) (now : ℕ) → starts_in any_kind (asked_with asked m now).acts ≡ 0
asked-none m asked now = grind arith

stronger-left : (m : Machine) (before asked : Mode) (now : ℕ) → m.shutdown ≡ Some before
    → starts_left (asked_with (strengthen_of (Some before) asked) m now).after ≤ starts_left m
stronger-left m mode.Smart mode.Smart now is = omega arith
stronger-left m mode.Smart mode.Fast now is = grind arith
stronger-left m mode.Smart mode.Immediate now is = grind arith
stronger-left m mode.Fast mode.Smart now is = omega arith
stronger-left m mode.Fast mode.Fast now is = omega arith
stronger-left m mode.Fast mode.Immediate now is = grind arith
stronger-left m mode.Immediate mode.Smart now is = omega arith
stronger-left m mode.Immediate mode.Fast now is = omega arith
stronger-left m mode.Immediate mode.Immediate now is = omega arith

asked-left-of : (m : Machine) (before : Option Mode) (asked : Mode) (now : ℕ) → m.shutdown ≡ before → is_some before ≡ true
    → starts_left (asked_with (strengthen_of before asked) m now).after ≤ starts_left m
asked-left-of m None asked now is some = absurd cc
asked-left-of m (Some before) asked now is some = stronger-left m before asked now is

pub asked-left : (m : Machine) (asked : Mode) (now : ℕ) → is_some m.shutdown ≡ true
    → starts_left (asked_with (strengthen_of m.shutdown asked) m now).after ≤ starts_left m
asked-left m asked now some = asked-left-of m m.shutdown asked now refl some

-- the end of a child

less-left : (k : Kind) (m : Machine) → starts_left (less_one k m) ≡ starts_left m
less-left kind.Startup m = refl
less-left kind.Checkpointer m = refl
less-left kind.Writer m = refl
less-left kind.Worker m = refl
less-left kind.Backend m = refl
less-left kind.DeadEnd m = refl

less-asked : (k : Kind) (m : Machine) → (less_one k m).shutdown ≡ m.shutdown
less-asked kind.Startup m = refl
less-asked kind.Checkpointer m = refl
less-asked kind.Writer m = refl
less-asked kind.Worker m = refl
less-asked kind.Backend m = refl
less-asked kind.DeadEnd m = refl

crash-spends : (m : Machine) (exit : _) → SpendsNoMore m (crash_rule m exit)
crash-spends m exit = omega (arith, crash-none m exit, crash-left m exit)

unless-spends : (cls : Class) (m : Machine) (exit : _) → SpendsNoMore m (unless_normal cls m exit)
unless-spends class.Normal m exit = omega arith
unless-spends class.Crash m exit = crash-spends m exit
unless-spends class.StartupFailed m exit = crash-spends m exit

unless-asked : (cls : Class) (m : Machine) (exit : _) → is_some m.shutdown ≡ true → is_some (unless_normal cls m exit).after.shutdown ≡ true
unless-asked class.Normal m exit some = some
unless-asked class.Crash m exit some = crash-asked m exit some
unless-asked class.StartupFailed m exit some = crash-asked m exit some

checkpointer-spends : (cls : Class) (m : Machine) (exit : _) → SpendsNoMore m (checkpointer_exited cls m exit)
checkpointer-spends class.Normal m exit = omega arith
checkpointer-spends class.Crash m exit = crash-spends m exit
checkpointer-spends class.StartupFailed m exit = crash-spends m exit

checkpointer-asked : (cls : Class) (m : Machine) (exit : _) → is_some m.shutdown ≡ true → is_some (checkpointer_exited cls m exit).after.shutdown ≡ true
checkpointer-asked class.Normal m exit some = some
checkpointer-asked class.Crash m exit some = crash-asked m exit some
checkpointer-asked class.StartupFailed m exit some = crash-asked m exit some

-- a startup child is there only while it may be waited for
pub record MayEndStartup (m : Machine) : Type 0 where
  pub before_checkpoint : m.state ≢ state.Shutdown
  pub before_dead_ends : m.state ≢ state.WaitDeadEnd
  pub before_none : m.state ≢ state.NoChildren

pub exit-asked : (k : Kind) (m : Machine) (exit : _) (a : Bool) → is_some m.shutdown ≡ true → is_some (exited_by k m exit a).after.shutdown ≡ true
exit-asked kind.Startup m exit a some = startup-asked m exit some
exit-asked kind.Checkpointer m exit a some = checkpointer-asked (class_of kind.Checkpointer (is_shutdown m.state) a exit.status) (less_one kind.Checkpointer m) exit some
exit-asked kind.Writer m exit a some = unless-asked (class_of kind.Writer (is_shutdown m.state) a exit.status) (less_one kind.Writer m) exit some
exit-asked kind.Worker m exit a some = unless-asked (class_of kind.Worker (is_shutdown m.state) a exit.status) (less_one kind.Worker m) exit some
exit-asked kind.Backend m exit a some = unless-asked (class_of kind.Backend (is_shutdown m.state) a exit.status) (less_one kind.Backend m) exit some
exit-asked kind.DeadEnd m exit a some = unless-asked (class_of kind.DeadEnd (is_shutdown m.state) a exit.status) (less_one kind.DeadEnd m) exit some

pub exit-left : (k : Kind) (m : Machine) (exit : _) (a : Bool) → (k ≡ kind.Startup → MayEndStartup m) → is_some m.shutdown ≡ true
    → SpendsNoMore m (exited_by k m exit a)
exit-left kind.Startup m exit a may some =
    startup-spends m exit (may refl).before_checkpoint (may refl).before_dead_ends (may refl).before_none some
exit-left kind.Checkpointer m exit a may some = checkpointer-spends (class_of kind.Checkpointer (is_shutdown m.state) a exit.status) (less_one kind.Checkpointer m) exit
exit-left kind.Writer m exit a may some = unless-spends (class_of kind.Writer (is_shutdown m.state) a exit.status) (less_one kind.Writer m) exit
exit-left kind.Worker m exit a may some = unless-spends (class_of kind.Worker (is_shutdown m.state) a exit.status) (less_one kind.Worker m) exit
exit-left kind.Backend m exit a may some = unless-spends (class_of kind.Backend (is_shutdown m.state) a exit.status) (less_one kind.Backend m) exit
exit-left kind.DeadEnd m exit a may some = unless-spends (class_of kind.DeadEnd (is_shutdown m.state) a exit.status) (less_one kind.DeadEnd m) exit

pub left-few : (m : Machine) → starts_left m ≤ 2
left-few m = grind arith

starts-few : (acts : List Action) → starts_in any_kind acts ≤ length acts
starts-few [] = omega arith
starts-few (act.Start k ∷ xs) = omega (arith, starts-few xs)
starts-few (act.Quit why ∷ xs) = omega (arith, starts-few xs)
starts-few (act.Terminate ∷ xs) = omega (arith, starts-few xs)
starts-few (act.KillAll ∷ xs) = omega (arith, starts-few xs)
starts-few (act.AskCheckpoint ∷ xs) = omega (arith, starts-few xs)
starts-few (act.Ready ∷ xs) = omega (arith, starts-few xs)
starts-few (act.Reset ∷ xs) = omega (arith, starts-few xs)
starts-few (act.Say line ∷ xs) = omega (arith, starts-few xs)
starts-few (act.End how ∷ xs) = omega (arith, starts-few xs)

-- standings

not-before : (before after : Bool) → (before ≡ true → after ≡ true) → after ≡ false → before ≡ false
not-before true after keeps isnt = sym (keeps refl) ∙ isnt
not-before false after keeps isnt = refl

pub pids-called : (s t : Standing) → HasPids s → s.due ≡ [] → s.owes_smart ≡ false → t.last_pid ≡ s.last_pid → t.owes_smart ≡ s.owes_smart → length t.due ≤ 4
    → (is_some s.machine.shutdown ≡ true → is_some t.machine.shutdown ≡ true)
    → (is_some s.machine.shutdown ≡ true → starts_in any_kind t.due + starts_left t.machine ≤ starts_left s.machine) → HasPids t
pids-called s t pids none unowed last owes few asked left =
    let starts = starts-few t.due in
    let below : is_some s.machine.shutdown ≡ false → s.last_pid < last_pid = λ isnt. pids.not_asked isnt unowed in
    let was : is_some t.machine.shutdown ≡ false → is_some s.machine.shutdown ≡ false = λ isnt. not-before (is_some s.machine.shutdown) (is_some t.machine.shutdown) asked isnt in
    record {
      owed = rw (last, owes) pids.owed;
      not_asked = λ isnt unowed_now. rw last (below (was isnt));
      few = λ isnt. omega (arith, last, starts, few, below (was isnt));
      asked = λ some.
          elim (is_some s.machine.shutdown) as
          (λ v. is_some s.machine.shutdown ≡ v → t.last_pid + (starts_in any_kind t.due + starts_left t.machine) ≤ highest_pid) [
            | true ↦ λ is. omega (arith, last, pids.asked is, left is)
            | false ↦ λ is. omega (arith, last, starts, few, below is, left-few t.machine)
          ]
          refl;
    }

pub pids-asked : (s t : Standing) → HasPids s → s.due ≡ [] → t.last_pid ≡ s.last_pid → t.owes_smart ≡ false → is_some t.machine.shutdown ≡ true
    → starts_in any_kind t.due ≡ 0 → (is_some s.machine.shutdown ≡ true → starts_left t.machine ≤ starts_left s.machine) → HasPids t
pids-asked s t pids none last unowed some starts left =
    let nothing : starts_in any_kind s.due ≡ 0 = ap (starts_in any_kind) none in
    record {
      owed = λ owes. absurd (let both : true ≡ false = sym owes ∙ unowed in cc);
      not_asked = λ isnt owes. absurd (let both : true ≡ false = sym some ∙ isnt in cc);
      few = λ isnt. absurd (let both : true ≡ false = sym some ∙ isnt in cc);
      asked = λ again.
          elim (is_some s.machine.shutdown) as
          (λ v. is_some s.machine.shutdown ≡ v → t.last_pid + (starts_in any_kind t.due + starts_left t.machine) ≤ highest_pid) [
            | true ↦ λ is. omega (arith, last, starts, pids.asked is, left is)
            | false ↦ λ is. omega (arith, last, starts, nothing, pids.few is, left-few t.machine)
          ]
          refl;
    }

accept-left : (decision : Cac) (m : Machine) → starts_left (accepted_as decision m) ≡ starts_left m
accept-left decision m = grind arith

below-last : (last : ℕ) → last < last_pid → false || nat_eq (last + 1) last_pid ≡ false → last + 1 < last_pid
below-last last below is = grind (arith, nat_tests)

drawn-last : (last : ℕ) → false || nat_eq (last + 1) last_pid ≡ true → last_pid ≤ last + 1
drawn-last last is = grind (arith, nat_tests)

not-yet : (owed : Bool) (last : ℕ) → (owed ≡ true → last_pid ≤ last) → last < last_pid → owed ≡ false
not-yet true last was below = absurd (omega (arith, was refl))
not-yet false last was below = refl

-- before the last pid no smart shutdown is owed
pub unowed-before : (s : Standing) → HasPids s → s.last_pid < last_pid → s.owes_smart ≡ false
unowed-before s pids below = not-yet s.owes_smart s.last_pid pids.owed below

pub pids-accepted : (s t : Standing) (decision : Cac) → HasPids s → s.due ≡ [] → s.owes_smart ≡ false → s.last_pid < last_pid
    → t.last_pid ≡ s.last_pid + 1 → t.owes_smart ≡ (s.owes_smart || nat_eq (s.last_pid + 1) last_pid) → t.due ≡ []
    → t.machine ≡ accepted_as decision s.machine → HasPids t
pids-accepted s t decision pids none unowed below last owed due machine =
    let nothing : starts_in any_kind s.due ≡ 0 = ap (starts_in any_kind) none in
    let none_due : starts_in any_kind t.due ≡ 0 = ap (starts_in any_kind) due in
    let shut : is_some t.machine.shutdown ≡ is_some s.machine.shutdown = ap (λ m. is_some m.shutdown) machine ∙ ap is_some (accepted_shutdown decision s.machine) in
    let left : starts_left t.machine ≡ starts_left s.machine = ap starts_left machine ∙ accept-left decision s.machine in
    record {
      owed = λ owes. rw last (drawn-last s.last_pid (ap (λ b. b || nat_eq (s.last_pid + 1) last_pid) (sym unowed) ∙ (sym owed ∙ owes)));
      not_asked = λ isnt owes. rw last (below-last s.last_pid below (ap (λ b. b || nat_eq (s.last_pid + 1) last_pid) (sym unowed) ∙ (sym owed ∙ owes)));
      few = λ isnt. omega (arith, last, none_due, below);
      asked = λ some. omega (arith, last, none_due, below, left, left-few s.machine);
    }

pub pids-kept : (s t : Standing) → t.machine ≡ s.machine → t.last_pid ≡ s.last_pid → t.owes_smart ≡ s.owes_smart → t.due ≡ s.due → HasPids s → HasPids t
pids-kept s t machine last owes due pids =
    record {
      owed = rw (last, owes) pids.owed;
      not_asked = rw (machine, last, owes) pids.not_asked;
      few = rw (machine, last, due) pids.few;
      asked = rw (machine, last, due) pids.asked;
    }

-- where a startup child is there
pub may-end-startup : (m : Machine) (s : Shared) → Known m s → IsCounted m kind.Startup → MayEndStartup m
may-end-startup m s known there =
    record {
      before_checkpoint = λ is. there (known.in_shutdown is).startup;
      before_dead_ends = λ is. there (known.in_wait_dead_end is).startup;
      before_none = λ is. there (known.in_no_children is).startup;
    }
