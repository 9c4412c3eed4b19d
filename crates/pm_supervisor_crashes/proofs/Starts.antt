-- In one generation at most one startup child is started.
use Rattle.std.{proofs.{Common.{◌≡◌, ◌⊎◌, inl, inr, ℕ, Bool, true, false, not, ◌&&◌, ◌||◌, List, [], ◌∷◌, Option, None, Some, refl, sym, subst, arith}, lemmas.Bool.{true≢false}}, specs.List.AllByRecursion}
use Rattle.pm_state.{specs.{pm_exit.{declared.child.{Kind.Kind, Class.Class}, Ends.{class_of, is_exit_0}}, pm_modes.{declared.Mode.{Mode, TheVariants.{Smart, Fast, Immediate}}, Strength.strengthen_of}, pm_admit.{declared.{Cac.Cac}, Admission.decide_of}, pm_supervisor.{declared.Limits.Limits, Children.is_startup_child, Supervisor.Shared}, declared.{action.Action.Action, event.PmEvent.PmEvent, machine.Machine.Machine}, Exits.{checkpointer_exited, crash_rule, exited_by, is_shutdown, less_one, startup_exited, unless_normal}, Facts.is_init, Machine.{Accepted, Exited, accepted_as, started_as, step, view_of}, Promises.has_act, Requests.{asked_with, ticked_at}, Transition.Transition, TurnRules.{backends_gone, children_gone, dead_ends_gone, end_smart, restart_writer, start_recovery, stop_backends}, Journal.{AreLegal, Do, Fits, Follows, IsLegal, MayCome, Replay, caused, dues_after, replay_begun, replayed, reported, row_of, settled}}, proofs.ReplayLaws.{Behind, Keeps, acts_behind_redo, acts_in, acts_in_dues, first_on, follows_on, rested}}
use Rattle.pm_state.specs.pm_exit.declared.child.Kind.TheVariants as kind
use Rattle.pm_state.specs.pm_exit.declared.child.Class.TheVariants as class
use Rattle.pm_state.specs.declared.action.Action.TheVariants as act
use Rattle.pm_state.specs.declared.event.PmEvent.TheVariants as entry
use Rattle.pm_supervisor_crashes.specs.Ends.{IsNoReset, IsNoStartOf, StartsAtMostOnce}

-- ---- what is kept

-- whether a startup child has been started since the last reset; nothing, where two have been
abbrev one_more : Option Bool → Option Bool
one_more (Some false) = Some true
one_more _ = None

abbrev one_if_startup : Kind → Option Bool → Option Bool
one_if_startup kind.Startup heard = one_more heard
one_if_startup _ heard = heard

abbrev afresh : Option Bool → Option Bool
afresh (Some started) = Some false
afresh None = None

abbrev starts_after : Option Bool → PmEvent → Option Bool
starts_after heard (entry.Started pid k) = one_if_startup k heard
starts_after heard (entry.Reset generation) = afresh heard
starts_after heard _ = heard

abbrev is_start : Action → Bool
is_start (act.Start kind.Startup) = true
is_start _ = false

-- the acts start at most one before the next reset, and none where one has been started
abbrev may_start : Bool → List Action → Bool
may_start started [] = true
may_start started (act.Reset ∷ acts) = may_start false acts
may_start started (act.Start kind.Startup ∷ acts) = not started && may_start true acts
may_start started (_ ∷ acts) = may_start started acts

-- none has been started where the server begins, and none is about to be
abbrev is_first : Bool → List Action → Machine → Bool
is_first started acts m = not (is_init m.state) || not (started || has_act is_start acts)

abbrev Starts : Option Bool → List Action → Machine → Type 0
Starts None acts m = ⊥
Starts (Some started) acts m = (may_start started acts ≡ true) × (is_first started acts m ≡ true)

abbrev AnyEntry : PmEvent → Type 0
AnyEntry e = Unit {0}

-- an act that starts none
less_starts : (started : Bool) (a : Action) (acts : List Action) (m : Machine) → is_start a ≡ false → is_first started (a ∷ acts) m ≡ true → is_first started acts m ≡ true
less_starts started a acts m none first = grind (arith, none, first)

begins_none : (started : Bool) (acts : List Action) (m : Machine) → is_first started (act.Start kind.Startup ∷ acts) m ≡ true → is_init m.state ≡ false
begins_none started acts m first = grind (arith, first)

first_then : (started : Bool) (acts : List Action) (m : Machine) → is_init m.state ≡ false → is_first started acts m ≡ true
first_then started acts m isnt = grind (arith, isnt)

started_same : (k : Kind) (m : Machine) → (started_as k m).state ≡ m.state
started_same kind.Startup m = refl
started_same kind.Checkpointer m = refl
started_same kind.Writer m = refl
started_same kind.Worker m = refl
started_same kind.Backend m = refl
started_same kind.DeadEnd m = refl

start_on : (k : Kind) (heard : Option Bool) (acts : List Action) (m : Machine) → Starts heard (act.Start k ∷ acts) m → Starts (one_if_startup k heard) acts (started_as k m)
start_on kind.Startup (Some true) acts m its = absurd (true≢false (sym its.0))
start_on kind.Startup (Some false) acts m its =
    (its.0, first_then true acts (started_as kind.Startup m) (begins_none false acts m its.1))
start_on kind.Checkpointer (Some started) acts m its = (its.0, less_starts started (act.Start kind.Checkpointer) acts m refl its.1)
start_on kind.Writer (Some started) acts m its = (its.0, less_starts started (act.Start kind.Writer) acts m refl its.1)
start_on kind.Worker (Some started) acts m its = (its.0, less_starts started (act.Start kind.Worker) acts m refl its.1)
start_on kind.Backend (Some started) acts m its = (its.0, less_starts started (act.Start kind.Backend) acts m refl its.1)
start_on kind.DeadEnd (Some started) acts m its = (its.0, less_starts started (act.Start kind.DeadEnd) acts m refl its.1)
start_on k None acts m its = absurd its

reset_first : (started : Bool) (acts : List Action) (m : Machine) → is_first started (act.Reset ∷ acts) m ≡ true → is_first false acts m ≡ true
reset_first started acts m first = grind (arith, first)

acted_on : (heard : Option Bool) (s : Shared) (a : Action) (acts : List Action) (e : PmEvent) (m : Machine) → Fits s (Do a) e → Starts heard (a ∷ acts) m
    → AnyEntry e × Starts (starts_after heard e) acts (reported e m)
acted_on None s a acts e m fits its = absurd its
acted_on (Some started) s (act.Start k) acts (entry.Started pid given) m fits its =
    (tt, subst (λ (x : Kind). Starts (one_if_startup x (Some started)) acts (started_as x m)) (sym fits.1) (start_on k (Some started) acts m its))
acted_on (Some started) s (act.Quit why) acts (entry.QuitSent reason) m fits its = (tt, (its.0, less_starts started (act.Quit why) acts m refl its.1))
acted_on (Some started) s act.Terminate acts entry.TerminateSent m fits its = (tt, (its.0, less_starts started act.Terminate acts m refl its.1))
acted_on (Some started) s act.AskCheckpoint acts entry.CheckpointAsked m fits its = (tt, (its.0, less_starts started act.AskCheckpoint acts m refl its.1))
acted_on (Some started) s act.Ready acts (entry.Ready generation) m fits its = (tt, (its.0, less_starts started act.Ready acts m refl its.1))
acted_on (Some started) s act.Reset acts (entry.Reset generation) m fits its = (tt, (its.0, reset_first started acts m its.1))
acted_on (Some started) s (act.Say line) acts (entry.Said written) m fits its = (tt, (its.0, less_starts started (act.Say line) acts m refl its.1))
acted_on (Some started) s (act.End how) acts (entry.Ended given) m fits its = (tt, (its.0, less_starts started (act.End how) acts m refl its.1))
acted_on (Some started) s a acts e m fits its = absurd fits

-- ---- what happens

-- nothing is started by it, and the server doesn't begin again
record StartsNone (m : Machine) (o : Transition) : Type 0 where
  begun : is_init o.after.state && not (is_init m.state) ≡ false
  none : has_act is_start o.acts ≡ false

may_none : (started : Bool) (acts : List Action) → has_act is_start acts ≡ false → may_start started acts ≡ true
may_none started [] none = refl
may_none started (act.Reset ∷ acts) none = may_none false acts none
may_none started (act.Start kind.Startup ∷ acts) none = absurd (true≢false none)
may_none started (act.Start kind.Checkpointer ∷ acts) none = may_none started acts none
may_none started (act.Start kind.Writer ∷ acts) none = may_none started acts none
may_none started (act.Start kind.Worker ∷ acts) none = may_none started acts none
may_none started (act.Start kind.Backend ∷ acts) none = may_none started acts none
may_none started (act.Start kind.DeadEnd ∷ acts) none = may_none started acts none
may_none started (act.Quit why ∷ acts) none = may_none started acts none
may_none started (act.Terminate ∷ acts) none = may_none started acts none
may_none started (act.KillAll ∷ acts) none = may_none started acts none
may_none started (act.AskCheckpoint ∷ acts) none = may_none started acts none
may_none started (act.Ready ∷ acts) none = may_none started acts none
may_none started (act.Say line ∷ acts) none = may_none started acts none
may_none started (act.End how ∷ acts) none = may_none started acts none

first_none : (started : Bool) (m : Machine) (o : Transition) → StartsNone m o → is_first started [] m ≡ true → is_first started o.acts o.after ≡ true
first_none started m o its first = grind (arith, its.begun, its.none, first)

none_started : (heard : Option Bool) (m : Machine) (o : Transition) → StartsNone m o → Starts heard [] m → Starts heard o.acts o.after
none_started None m o its starts = absurd starts
none_started (Some started) m o its starts = (may_none started o.acts its.none, first_none started m o its starts.1)

accepted_none : (decision : Cac) (m : Machine) → is_init (accepted_as decision m).state && not (is_init m.state) ≡ false
accepted_none decision m = grind arith

asked_none : (mode : Mode) (at : ℕ) (m : Machine) → StartsNone m (asked_with (strengthen_of m.shutdown mode) m at)
asked_none Smart at m = record { begun = grind arith; none = grind arith }
asked_none Fast at m = record { begun = grind arith; none = grind arith }
asked_none Immediate at m = record { begun = grind arith; none = grind arith }

ticked_none : (since : Option ℕ) (at : ℕ) (m : Machine) → is_init (ticked_at since m at).after.state && not (is_init m.state) ≡ false
ticked_none since at m = grind arith

crash_none : (m : Machine) (exit : _) → StartsNone m (crash_rule m exit)
unfolding crash_rule
crash_none m exit = record { begun = grind arith; none = grind arith }

startup_none : (m : Machine) (exit : _) → StartsNone m (startup_exited m exit)
unfolding startup_exited crash_rule
startup_none m exit = record { begun = grind arith; none = grind arith }

less_none : (k : Kind) (m : Machine) (o : Transition) → StartsNone (less_one k m) o → StartsNone m o
less_none kind.Startup m o its = record { begun = its.begun; none = its.none }
less_none kind.Checkpointer m o its = record { begun = its.begun; none = its.none }
less_none kind.Writer m o its = record { begun = its.begun; none = its.none }
less_none kind.Worker m o its = record { begun = its.begun; none = its.none }
less_none kind.Backend m o its = record { begun = its.begun; none = its.none }
less_none kind.DeadEnd m o its = record { begun = its.begun; none = its.none }

same_none : (m : Machine) → is_init m.state && not (is_init m.state) ≡ false
same_none m = grind arith

unless_none : (c : Class) (m : Machine) (exit : _) → StartsNone m (unless_normal c m exit)
unless_none class.Normal m exit = record { begun = same_none m; none = refl }
unless_none class.Crash m exit = crash_none m exit
unless_none class.StartupFailed m exit = crash_none m exit

checkpointer_none : (c : Class) (m : Machine) (exit : _) → StartsNone m (checkpointer_exited c m exit)
checkpointer_none class.Normal m exit = record { begun = refl; none = refl }
checkpointer_none class.Crash m exit = crash_none m exit
checkpointer_none class.StartupFailed m exit = crash_none m exit

exited_none : (k : Kind) (m : Machine) (exit : _) (was_active : Bool) → StartsNone m (exited_by k m exit was_active)
exited_none kind.Startup m exit was_active = startup_none m exit
exited_none kind.Checkpointer m exit was_active =
    less_none kind.Checkpointer m _ (checkpointer_none (class_of kind.Checkpointer (is_shutdown m.state) was_active exit.status) (less_one kind.Checkpointer m) exit)
exited_none kind.Writer m exit was_active =
    less_none kind.Writer m _ (unless_none (class_of kind.Writer (is_shutdown m.state) was_active exit.status) (less_one kind.Writer m) exit)
exited_none kind.Worker m exit was_active =
    less_none kind.Worker m _ (unless_none (class_of kind.Worker (is_shutdown m.state) was_active exit.status) (less_one kind.Worker m) exit)
exited_none kind.Backend m exit was_active =
    less_none kind.Backend m _ (unless_none (class_of kind.Backend (is_shutdown m.state) was_active exit.status) (less_one kind.Backend m) exit)
exited_none kind.DeadEnd m exit was_active =
    less_none kind.DeadEnd m _ (unless_none (class_of kind.DeadEnd (is_shutdown m.state) was_active exit.status) (less_one kind.DeadEnd m) exit)

-- by itself the machine starts one where it begins, and one behind a reset
row_on : (heard : Option Bool) (m : Machine) → Starts heard [] m → Starts heard (row_of m).acts (row_of m).after
unfolding row_of start_recovery restart_writer end_smart stop_backends backends_gone dead_ends_gone children_gone
row_on None m its = absurd its
row_on (Some started) m its = (grind (arith, its.1), grind (arith, its.1))

settled_same : (m : Machine) → is_init (settled m).state && not (is_init m.state) ≡ false
unfolding settled backends_gone dead_ends_gone
settled_same m = grind arith

settled_first : (started : Bool) (acts : List Action) (m : Machine) → is_first started acts m ≡ true → is_first started acts (settled m) ≡ true
settled_first started acts m first = grind (arith, settled_same m, first)

settled_on : (heard : Option Bool) (acts : List Action) (m : Machine) → Starts heard acts m → Starts heard acts (settled m)
settled_on None acts m its = absurd its
settled_on (Some started) acts m its = (its.0, settled_first started acts m its.1)

keeps_starts : Keeps (Option Bool) starts_after Starts AnyEntry
keeps_starts = record { acted = acted_on; redo = λ heard generation kept acts m its. (tt, its); row = λ heard m on its. row_on heard m its; settled = settled_on }

-- ---- one entry

starts_rested : (heard : Option Bool) (r : Replay) (e : PmEvent) (acts : List Action) → r.due ≡ [] → acts_in (dues_after r.machine e) ≡ acts
    → Starts heard acts (reported e (caused r.machine e).after) → Starts heard (acts_in (replayed r e).due) (replayed r e).machine
starts_rested heard r e acts none is its = rested (Option Bool) starts_after Starts AnyEntry keeps_starts heard r e acts none is its

come_on : (gives : ℕ → Bool) (heard : Option Bool) (r : Replay) (e : PmEvent) → r.due ≡ [] → r.machine.ended ≡ false → MayCome gives r e → Starts heard [] r.machine
    → Behind (Option Bool) starts_after Starts AnyEntry heard r e
come_on gives heard r (entry.Accepted pid decision) none on may its = (
  tt,
  starts_rested heard r (entry.Accepted pid decision) [] none refl
      (none_started heard r.machine (step r.machine Accepted) (record { begun = accepted_none (decide_of (view_of r.machine)) r.machine; none = refl }) its),
)
come_on gives heard r (entry.Exited pid k status was_active at) none on may its = (
  tt,
  starts_rested heard r (entry.Exited pid k status was_active at) (step r.machine (Exited pid k status was_active at)).acts none
      (acts_behind_redo (is_startup_child k && is_exit_0 status) (step r.machine (Exited pid k status was_active at)).acts)
      (none_started heard r.machine (step r.machine (Exited pid k status was_active at)) (exited_none k r.machine (record { pid = pid; kind = k; status = status; now = at }) was_active) its),
)
come_on gives heard r (entry.Asked mode at) none on may its = (
  tt,
  starts_rested heard r (entry.Asked mode at) (asked_with (strengthen_of r.machine.shutdown mode) r.machine at).acts none (acts_in_dues _)
      (none_started heard r.machine (asked_with (strengthen_of r.machine.shutdown mode) r.machine at) (asked_none mode at r.machine) its),
)
come_on gives heard r (entry.KillAsked pid) none on may its = (tt, starts_rested heard r (entry.KillAsked pid) [] none refl its)
come_on gives heard r (entry.KillSent at) none on may its = (
  tt,
  starts_rested heard r (entry.KillSent at) [] none refl
      (none_started heard r.machine (record { after = (ticked_at r.machine.abort_at r.machine at).after; acts = [] }) (record { begun = ticked_none r.machine.abort_at at r.machine; none = refl }) its),
)
come_on gives heard r e none on may its = first_on (Option Bool) starts_after Starts AnyEntry keeps_starts heard r e none on may its

entry_on : (gives : ℕ → Bool) (heard : Option Bool) (r : Replay) (e : PmEvent) → Follows gives r e → Starts heard (acts_in r.due) r.machine
    → Behind (Option Bool) starts_after Starts AnyEntry heard r e
entry_on gives heard r e may its =
    follows_on (Option Bool) starts_after Starts AnyEntry keeps_starts gives heard r e r.due refl may (λ none free rests. come_on gives heard r e none free.0 free.2 rests) its

-- ---- a whole journal

-- where one has been started none is, and at most one is at all
record StartsOnce (started : Bool) (journal : List PmEvent) : Type 0 where
  none : started ≡ true → AllByRecursion (IsNoStartOf is_startup_child) journal
  once : StartsAtMostOnce is_startup_child journal

-- what is heard of one entry
record HeardOf (started : Bool) (e : PmEvent) (acts : List Action) (m : Machine) : Type 0 where
  heard : Bool
  its : Starts (Some heard) acts m
  none : started ≡ true → IsNoStartOf is_startup_child e × (heard ≡ true)
  first : IsNoStartOf is_startup_child e ⊎ (heard ≡ true)

heard_of : (started : Bool) (e : PmEvent) (acts : List Action) (m : Machine) → IsNoReset e → Starts (starts_after (Some started) e) acts m → HeardOf started e acts m
heard_of true (entry.Started pid kind.Startup) acts m on its = absurd its
heard_of false (entry.Started pid kind.Startup) acts m on its = record { heard = true; its = its; none = λ is. absurd (true≢false (sym is)); first = inr refl }
heard_of started (entry.Started pid k) acts m on its = record { heard = started; its = its; none = λ is. (refl, is); first = inl refl }
heard_of started (entry.Reset generation) acts m on its = absurd on
heard_of started e acts m on its = record { heard = started; its = its; none = λ is. (tt, is); first = inl tt }

once_from : (gives : ℕ → Bool) (started : Bool) (r : Replay) (journal : List PmEvent) → AreLegal gives r journal → AllByRecursion IsNoReset journal
    → Starts (Some started) (acts_in r.due) r.machine → StartsOnce started journal
once_from gives started r [] legal on its = record { none = λ is. tt; once = tt }
once_from gives started r (e ∷ journal) legal on its =
    let after = heard_of started e (acts_in (replayed r e).due) (replayed r e).machine on.0 (entry_on gives (Some started) r e legal.0 its).1 in
    let rest = once_from gives after.heard (replayed r e) journal legal.1 on.1 after.its in
    record {
      none = λ is. let its = after.none is in (its.0, rest.none its.1);
      once = (elim after.first [ inl none ↦ inl none | inr is ↦ inr (rest.none is) ], rest.once);
    }

pub starts_once : (limits : Limits) (gives : ℕ → Bool) (journal : List PmEvent) → IsLegal limits gives journal → AllByRecursion IsNoReset journal → StartsAtMostOnce is_startup_child journal
starts_once limits gives journal legal on = (once_from gives false (replay_begun limits) journal legal on (refl, refl)).once
