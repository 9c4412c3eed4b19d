-- What the machine asks for.
use Rattle.std.{proofs.Common.{ℕ, Option, None, Some, List, [], ◌∷◌, ◌++◌, ◌≡◌, refl, sym, ◌∙◌, ap}, specs.Prelude.{Bool, true, false, if◌then◌else◌, not, ◌&&◌, ◌||◌, is_some, ◌==◌}}
use Rattle.pm_state.specs.{pm_modes.{declared.Mode.{TheVariants.{Smart, Fast, Immediate}, Mode}, Strength.{strengthen_of, is_immediate}}, pm_admit.{declared.PmState.PmState, Admission.is_startup}, declared.{machine.Machine.Machine, action.Action.Action}, Requests.{asked_in, asked_with}, Exits.{crash_rule, is_running, signalled_state, startup_exited, without_startup, unless_normal, checkpointer_exited, exited_by, is_shutdown, less_one}, Transition.Transition, pm_exit.{Ends.{is_exit_0, is_exit_1, class_of}, declared.child.{Class.Class, Kind.Kind}}, TurnRules.{start_recovery_in, start_recovery, restart_writer_in, restart_writer, end_smart_in, end_smart, stop_backends_in, stop_backends, are_backends_gone, backends_gone_in, backends_gone, dead_ends_gone_in, dead_ends_gone, children_gone_in, children_gone, and_then, turned_of}}
use Rattle.pm_state.specs.pm_admit.declared.PmState.TheVariants as state
use Rattle.pm_supervisor_journal.specs.Due.{AreSays, AreOurs}
use Rattle.pm_state.specs.declared.action.Action.TheVariants as act
use Rattle.pm_state.specs.pm_exit.declared.child.Class.TheVariants as class
use Rattle.pm_state.specs.pm_exit.declared.child.Kind.TheVariants as kind
use Rattle.pm_state.specs.pm_supervisor.declared.Ending.TheVariants as endings

-- ---- a request

asked_says : (s : PmState) (m : Machine) (now : ℕ) → AreSays (asked_in Smart s m now).acts
asked_says state.Init m now = tt
asked_says _ m now = tt

says_by : (before : Option Mode) (m : Machine) (now : ℕ) → AreSays (asked_with (strengthen_of before Smart) m now).acts
says_by None m now = asked_says m.state (record m { shutdown = Some Smart }) now
says_by (Some Smart) m now = tt
says_by (Some Fast) m now = tt
says_by (Some Immediate) m now = tt

pub ask_says : (m : Machine) (now : ℕ) → AreSays (asked_with (strengthen_of m.shutdown Smart) m now).acts
ask_says m now = says_by m.shutdown m now

pub says_ours : (asked : Bool) (acts : List Action) → AreSays acts → AreOurs asked acts
says_ours asked [] says = tt
says_ours asked (act.Say line ∷ acts) says = says_ours asked acts says
says_ours asked (_ ∷ acts) says = absurd says

-- ---- the end of a child

-- either list, by a test
by_test : (asked : Bool) (b : Bool) (xs ys : List Action) → AreOurs asked xs → AreOurs asked ys → AreOurs asked (if b then xs else ys)
by_test asked true xs ys one two = one
by_test asked false xs ys one two = two

crash_ours : (asked : Bool) (m : Machine) (exit : _) → AreOurs asked (crash_rule m exit).acts
unfolding crash_rule
crash_ours asked m exit = by_test asked (not m.fatal && not (is_immediate m.shutdown)) _ _ tt tt

-- either transition, by a test
by_case : (asked : Bool) (b : Bool) (one two : Transition) → AreOurs asked one.acts → AreOurs asked two.acts → AreOurs asked (if b then one else two).acts
by_case asked true one two first second = first
by_case asked false one two first second = second

startup_ours : (asked : Bool) (m : Machine) (exit : _) → AreOurs asked (startup_exited m exit).acts
unfolding startup_exited
startup_ours asked m exit =
    by_case asked (is_some m.shutdown && (is_exit_0 exit.status || is_exit_1 exit.status)) _ _ tt
    (by_case asked (is_exit_0 exit.status) _ _ tt
    (by_case asked (is_startup m.state && is_running m.startup) _ _ tt (crash_ours asked (without_startup m (signalled_state m.state)) exit)))

normal_ours : (asked : Bool) (c : Class) (m : Machine) (exit : _) → AreOurs asked (unless_normal c m exit).acts
normal_ours asked class.Normal m exit = tt
normal_ours asked class.Crash m exit = crash_ours asked m exit
normal_ours asked class.StartupFailed m exit = crash_ours asked m exit

checkpointer_ours : (asked : Bool) (c : Class) (m : Machine) (exit : _) → AreOurs asked (checkpointer_exited c m exit).acts
checkpointer_ours asked class.Normal m exit = tt
checkpointer_ours asked class.Crash m exit = crash_ours asked m exit
checkpointer_ours asked class.StartupFailed m exit = crash_ours asked m exit

pub exit_ours : (asked : Bool) (k : Kind) (m : Machine) (exit : _) (active : Bool) → AreOurs asked (exited_by k m exit active).acts
exit_ours asked kind.Startup m exit active = startup_ours asked m exit
exit_ours asked kind.Checkpointer m exit active = checkpointer_ours asked (class_of kind.Checkpointer (is_shutdown m.state) active exit.status) (less_one kind.Checkpointer m) exit
exit_ours asked kind.Writer m exit active = normal_ours asked (class_of kind.Writer (is_shutdown m.state) active exit.status) (less_one kind.Writer m) exit
exit_ours asked kind.Worker m exit active = normal_ours asked (class_of kind.Worker (is_shutdown m.state) active exit.status) (less_one kind.Worker m) exit
exit_ours asked kind.Backend m exit active = normal_ours asked (class_of kind.Backend (is_shutdown m.state) active exit.status) (less_one kind.Backend m) exit
exit_ours asked kind.DeadEnd m exit active = normal_ours asked (class_of kind.DeadEnd (is_shutdown m.state) active exit.status) (less_one kind.DeadEnd m) exit

-- ---- a turn

both_ours : (asked : Bool) (xs ys : List Action) → AreOurs asked xs → AreOurs asked ys → AreOurs asked (xs ++ ys)
both_ours asked [] ys one two = two
both_ours asked (act.KillAll ∷ xs) ys one two = absurd one
both_ours asked (act.Reset ∷ xs) ys one two = (one.0, both_ours asked xs ys one.1 two)
both_ours asked (act.End endings.RestartOff ∷ xs) ys one two = (one.0, both_ours asked xs ys one.1 two)
both_ours asked (_ ∷ xs) ys one two = both_ours asked xs ys one two

-- a machine that was asked to shut down, or not
abbrev pub IsOf : Bool → Machine → Type 0
IsOf asked m = is_some m.shutdown ≡ asked

-- a rule of a turn, and the request that its machine goes on with
pub record IsRule (asked : Bool) (m : Machine) (t : Transition) : Type 0 where
  pub acts : AreOurs asked t.acts
  pub shutdown_is : t.after.shutdown ≡ m.shutdown

rule_by : (asked : Bool) (m : Machine) (b : Bool) (one two : Transition) → (b ≡ true → IsRule asked m one) → (b ≡ false → IsRule asked m two) → IsRule asked m (if b then one else two)
rule_by asked m true one two first second = first refl
rule_by asked m false one two first second = second refl

start_recovery_case : (asked : Bool) (st : PmState) (m : Machine) → IsOf asked m → IsRule asked m (start_recovery_in st m)
start_recovery_case asked state.Init m same = record { acts = tt; shutdown_is = refl }
start_recovery_case asked _ m same = record { acts = tt; shutdown_is = refl }

pub start_recovery_rule : (asked : Bool) (m : Machine) → IsOf asked m → IsRule asked m (start_recovery m)
unfolding start_recovery
start_recovery_rule asked m same = start_recovery_case asked m.state m same

restart_writer_case : (asked : Bool) (st : PmState) (m : Machine) → IsOf asked m → IsRule asked m (restart_writer_in st m)
restart_writer_case asked state.Run m same = rule_by asked m (m.conns && not m.writer) _ _ (λ is. record { acts = tt; shutdown_is = refl }) (λ is. record { acts = tt; shutdown_is = refl })
restart_writer_case asked _ m same = record { acts = tt; shutdown_is = refl }

pub restart_writer_rule : (asked : Bool) (m : Machine) → IsOf asked m → IsRule asked m (restart_writer m)
unfolding restart_writer
restart_writer_rule asked m same = restart_writer_case asked m.state m same

end_smart_case : (asked : Bool) (st : PmState) (m : Machine) → IsOf asked m → IsRule asked m (end_smart_in st m)
end_smart_case asked state.Run m same = rule_by asked m (not m.conns && (m.children == 0)) _ _ (λ is. record { acts = tt; shutdown_is = refl }) (λ is. record { acts = tt; shutdown_is = refl })
end_smart_case asked _ m same = record { acts = tt; shutdown_is = refl }

pub end_smart_rule : (asked : Bool) (m : Machine) → IsOf asked m → IsRule asked m (end_smart m)
unfolding end_smart
end_smart_rule asked m same = end_smart_case asked m.state m same

stop_backends_case : (asked : Bool) (st : PmState) (m : Machine) → IsOf asked m → IsRule asked m (stop_backends_in st m)
stop_backends_case asked state.Init m same = record { acts = tt; shutdown_is = refl }
stop_backends_case asked _ m same = record { acts = tt; shutdown_is = refl }

pub stop_backends_rule : (asked : Bool) (m : Machine) → IsOf asked m → IsRule asked m (stop_backends m)
unfolding stop_backends
stop_backends_rule asked m same = stop_backends_case asked m.state m same

backends_gone_case : (asked : Bool) (st : PmState) (m : Machine) → IsOf asked m → IsRule asked m (backends_gone_in st m)
backends_gone_case asked state.WaitBackends m same = rule_by asked m (not (are_backends_gone m)) _ _ (λ is. record { acts = tt; shutdown_is = refl }) (λ is. rule_by asked m (m.fatal || is_immediate m.shutdown) _ _ (λ other. rule_by asked m (m.checkpointer) _ _ (λ is. record { acts = tt; shutdown_is = refl }) (λ is. record { acts = tt; shutdown_is = refl })) (λ other. rule_by asked m (m.checkpointer) _ _ (λ is. record { acts = tt; shutdown_is = refl }) (λ is. record { acts = tt; shutdown_is = refl })))
backends_gone_case asked _ m same = record { acts = tt; shutdown_is = refl }

pub backends_gone_rule : (asked : Bool) (m : Machine) → IsOf asked m → IsRule asked m (backends_gone m)
unfolding backends_gone
backends_gone_rule asked m same = backends_gone_case asked m.state m same

dead_ends_gone_case : (asked : Bool) (st : PmState) (m : Machine) → IsOf asked m → IsRule asked m (dead_ends_gone_in st m)
dead_ends_gone_case asked state.WaitDeadEnd m same = rule_by asked m (are_backends_gone m && not m.checkpointer && (m.dead_ends == 0)) _ _ (λ is. record { acts = tt; shutdown_is = refl }) (λ is. record { acts = tt; shutdown_is = refl })
dead_ends_gone_case asked _ m same = record { acts = tt; shutdown_is = refl }

pub dead_ends_gone_rule : (asked : Bool) (m : Machine) → IsOf asked m → IsRule asked m (dead_ends_gone m)
unfolding dead_ends_gone
dead_ends_gone_rule asked m same = dead_ends_gone_case asked m.state m same

children_gone_case : (asked : Bool) (st : PmState) (m : Machine) → IsOf asked m → IsRule asked m (children_gone_in st m)
children_gone_case asked state.NoChildren m same = rule_by asked m (is_some m.shutdown && m.fatal) _ _ (λ is. record { acts = tt; shutdown_is = refl }) (λ is. rule_by asked m (is_some m.shutdown) _ _ (λ is. record { acts = tt; shutdown_is = refl }) (λ other. rule_by asked m (not m.limits.restart_after_crash) _ _ (λ off. record { acts = (sym same ∙ other, tt); shutdown_is = refl }) (λ is. record { acts = (sym same ∙ other, tt); shutdown_is = refl })))
children_gone_case asked _ m same = record { acts = tt; shutdown_is = refl }

pub children_gone_rule : (asked : Bool) (m : Machine) → IsOf asked m → IsRule asked m (children_gone m)
unfolding children_gone
children_gone_rule asked m same = children_gone_case asked m.state m same

then_rule : (asked : Bool) (m : Machine) (t : Transition) (rule : Machine → Transition) → IsOf asked m → IsRule asked m t → ((n : Machine) → IsOf asked n → IsRule asked n (rule n)) → IsRule asked m (and_then t rule)
then_rule asked m t rule same one next =
    let two = next t.after (ap is_some one.shutdown_is ∙ same) in
    record {
      acts = both_ours asked t.acts (rule t.after).acts one.acts two.acts;
      shutdown_is = two.shutdown_is ∙ one.shutdown_is;
    }

pub turn_rule : (asked : Bool) (m : Machine) → IsOf asked m → IsRule asked m (turned_of m)
unfolding turned_of
turn_rule asked m same =
    (then_rule asked m _ children_gone same
    (then_rule asked m _ dead_ends_gone same
    (then_rule asked m _ backends_gone same
    (then_rule asked m _ stop_backends same
    (then_rule asked m _ end_smart same
    (then_rule asked m _ restart_writer same (start_recovery_rule asked m same)
    (restart_writer_rule asked)) (end_smart_rule asked)) (stop_backends_rule asked)) (backends_gone_rule asked)) (dead_ends_gone_rule asked)) (children_gone_rule asked))
