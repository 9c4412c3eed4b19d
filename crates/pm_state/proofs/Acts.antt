-- The acts of one call: how many they are, and in which order they come.
use Rattle.std.proofs.Common.{◌≡◌, ℕ, ◌≤◌, Bool, true, false, not, ◌||◌, List, [], ◌∷◌, Option, Some, None, length, refl, arith}
use Rattle.pm_exit.specs.{declared.child.{Kind.Kind, Class.Class}, Ends.class_of}
use Rattle.pm_exit.specs.declared.child.Kind.TheVariants as kind
use Rattle.pm_exit.specs.declared.child.Class.TheVariants as class
use Rattle.pm_modes.specs.{declared.Mode.Mode, Strength.strengthen_of}
use Rattle.pm_admit.specs.declared.PmState.TheVariants as state
use Rattle.pm_state.{specs.{declared.{action.Action.Action, machine.{Machine.Machine, Exit.Exit}}, Exits.{is_shutdown, exited_by, unless_normal, checkpointer_exited, less_one, crash_rule, startup_exited}, Machine.{MachineEvent, Accepted, Started, Exited, Asked, Ticked, Turned, step}, Requests.{asked_with, ticked_at}, Starts.{has_end, has_start}, TurnRules.{start_recovery, restart_writer, backends_gone, children_gone}}, proofs.TurnCases.{late_of, with_terminate, TurnCases, by-turn, by-late}}
use Rattle.pm_state.specs.declared.action.Action.TheVariants as act

-- no act that all children are told of, and none that begins a generation
abbrev pub are_calm : List Action → Bool
are_calm [] = true
are_calm (act.Quit why ∷ acts) = false
are_calm (act.Reset ∷ acts) = false
are_calm (_ ∷ acts) = are_calm acts

-- such acts stand before every start
abbrev pub is_ordered : List Action → Bool
is_ordered [] = true
is_ordered (act.Start k ∷ acts) = are_calm acts
is_ordered (_ ∷ acts) = is_ordered acts

pub record IsBrief (limit : ℕ) (acts : List Action) : Type 0 where
  pub few : length acts ≤ limit
  pub apart : not (has_end acts) || not (has_start acts) ≡ true
  pub ordered : is_ordered acts ≡ true

none-brief : IsBrief 3 []
none-brief = record { few = omega arith; apart = refl; ordered = refl }

longer : (acts : List Action) → IsBrief 3 acts → IsBrief 4 acts
longer acts brief = record { few = omega (arith, brief.few); apart = brief.apart; ordered = brief.ordered }

crash-brief : (m : Machine) (exit : Exit) → IsBrief 3 (crash_rule m exit).acts
unfolding crash_rule
crash-brief m exit = record { few = grind arith; apart = grind arith; ordered = grind arith }

startup-brief : (m : Machine) (exit : Exit) → IsBrief 4 (startup_exited m exit).acts
unfolding startup_exited crash_rule
startup-brief m exit = record { few = grind arith; apart = grind arith; ordered = grind arith }

unless-brief : (cls : Class) (m : Machine) (exit : Exit) → IsBrief 4 (unless_normal cls m exit).acts
unless-brief class.Normal m exit = longer [] none-brief
unless-brief class.Crash m exit = longer (crash_rule m exit).acts (crash-brief m exit)
unless-brief class.StartupFailed m exit = longer (crash_rule m exit).acts (crash-brief m exit)

checkpointer-brief : (cls : Class) (m : Machine) (exit : Exit) → IsBrief 4 (checkpointer_exited cls m exit).acts
checkpointer-brief class.Normal m exit = longer [] none-brief
checkpointer-brief class.Crash m exit = longer (crash_rule m exit).acts (crash-brief m exit)
checkpointer-brief class.StartupFailed m exit = longer (crash_rule m exit).acts (crash-brief m exit)

exited-brief : (k : Kind) (m : Machine) (exit : Exit) (a : Bool) → IsBrief 4 (exited_by k m exit a).acts
exited-brief kind.Startup m exit a = startup-brief m exit
exited-brief kind.Checkpointer m exit a =
    checkpointer-brief (class_of kind.Checkpointer (is_shutdown m.state) a exit.status) (less_one kind.Checkpointer m) exit
exited-brief kind.Writer m exit a = unless-brief (class_of kind.Writer (is_shutdown m.state) a exit.status) (less_one kind.Writer m) exit
exited-brief kind.Worker m exit a = unless-brief (class_of kind.Worker (is_shutdown m.state) a exit.status) (less_one kind.Worker m) exit
exited-brief kind.Backend m exit a = unless-brief (class_of kind.Backend (is_shutdown m.state) a exit.status) (less_one kind.Backend m) exit
exited-brief kind.DeadEnd m exit a = unless-brief (class_of kind.DeadEnd (is_shutdown m.state) a exit.status) (less_one kind.DeadEnd m) exit

asked-brief : (m : Machine) (answer : Option Mode) (now : ℕ) → IsBrief 4 (asked_with answer m now).acts
asked-brief m None now = longer [] none-brief
asked-brief m (Some asked) now = record { few = grind arith; apart = grind arith; ordered = grind arith }

ticked-brief : (m : Machine) (since : Option ℕ) (now : ℕ) → IsBrief 4 (ticked_at since m now).acts
ticked-brief m since now = record { few = grind arith; apart = grind arith; ordered = grind arith }

backends-brief : (m : Machine) → IsBrief 3 (backends_gone m).acts
unfolding backends_gone
backends-brief m = record { few = grind arith; apart = grind arith; ordered = grind arith }

children-brief : (m : Machine) → IsBrief 3 (children_gone m).acts
unfolding children_gone
children-brief m = record { few = grind arith; apart = grind arith; ordered = grind arith }

late-brief : (m : Machine) → IsBrief 3 (late_of m).acts
late-brief m = by-late (λ o. IsBrief 3 o.acts) (λ n calm asking. backends-brief n) (λ n settles. children-brief n) m

terminate-brief : (m : Machine) → IsBrief 4 (with_terminate (late_of m)).acts
unfolding with_terminate
terminate-brief m =
    let brief : IsBrief 3 (late_of m).acts = late-brief m in
    record { few = omega (arith, brief.few); apart = brief.apart; ordered = brief.ordered }

begins-brief : (m : Machine) → IsBrief 4 (start_recovery (record m { state = state.Init })).acts
unfolding start_recovery
begins-brief m = record { few = omega arith; apart = refl; ordered = refl }

writer-brief : (m : Machine) → IsBrief 4 (restart_writer (record m { state = state.Run; conns = true; writer = false })).acts
unfolding restart_writer
writer-brief m = record { few = omega arith; apart = refl; ordered = refl }

turn-brief : TurnCases (λ m o. IsBrief 4 o.acts)
turn-brief =
    record {
      begins = begins-brief;
      lacks_writer = writer-brief;
      idle = λ m idle. longer [] none-brief;
      drained = λ m empty. terminate-brief (record m { state = state.WaitBackends; conns = false });
      stopping = λ m. terminate-brief (record m { state = state.WaitBackends });
      late = λ m is. longer (late_of m).acts (late-brief m);
    }

pub step-brief : (m : Machine) (event : MachineEvent) → IsBrief 4 (step m event).acts
step-brief m Accepted = longer [] none-brief
step-brief m (Started k) = longer [] none-brief
step-brief m (Exited pid k status a now) = exited-brief k m (record { pid = pid; kind = k; status = status; now = now }) a
step-brief m (Asked asked now) = asked-brief m (strengthen_of m.shutdown asked) now
step-brief m (Ticked now) = ticked-brief m m.abort_at now
step-brief m Turned = by-turn (λ n o. IsBrief 4 o.acts) turn-brief m
