-- Before the first crash of a journal that nobody outside disturbs, no child is told to end at once and none is killed, no other
-- generation begins, and the last checkpoint and the end of sessions are asked for in a shutdown alone.
use Rattle.std.{proofs.{Common.{◌≡◌, ℕ, Bool, true, false, not, cond, ◌&&◌, ◌||◌, List, [], ◌∷◌, refl, sym, ap, subst, arith}, lemmas.Bool.{and_parts, true≢false}}, specs.Prelude.is_some}
use Rattle.pm_serve_crew.specs.{pm_exit.{declared.child.{Kind.Kind, Status.Status}, Ends.{is_exit_0, is_exit_1}}, pm_modes.{declared.Mode.{Mode, TheVariants.{Smart, Fast, Immediate}}, Strength.strengthen_of}, pm_admit.Admission.decide_of, pm_supervisor.{Steps.is_normal, Supervisor.Shared}, pm_state.{declared.{action.Action.Action, event.PmEvent.PmEvent, machine.Machine.Machine}, Exits.{crash_rule, is_shutdown, less_one, startup_exited, unless_normal}, Machine.{Exited, accepted_as, started_as, step, view_of}, Promises.{has_act, is_terminate}, Requests.{asked_with, ticked_at}, TurnRules.{backends_gone, children_gone, dead_ends_gone, end_smart, is_not_running, restart_writer, start_recovery, stop_backends}, Journal.{Do, Fits, reported, row_of, settled}}}
use Rattle.pm_serve_crew.specs.pm_exit.declared.child.Kind.TheVariants as kind
use Rattle.pm_serve_crew.specs.pm_exit.declared.child.Class.TheVariants as class
use Rattle.pm_serve_crew.specs.pm_supervisor.declared.Ending.TheVariants as ending
use Rattle.pm_serve_crew.specs.pm_state.declared.action.Action.TheVariants as act
use Rattle.pm_serve_crew.specs.pm_state.declared.event.PmEvent.TheVariants as entry
use Rattle.pm_store_remains.proofs.pm_server.CalmLaws as machine
use Rattle.pm_supervisor_crashes.specs.Crashes.{IsHarmless, IsUnasked, is_crash}

-- ---- what holds

-- What the entries so far tell: that the last checkpoint was asked for, and that sessions were told to end.
pub record SoFar : Type 0 where
  pub checkpoint : Bool
  pub terminate : Bool

abbrev pub nothing_so_far : SoFar
nothing_so_far = record { checkpoint = false; terminate = false }

abbrev pub told_after : SoFar → PmEvent → SoFar
told_after h entry.CheckpointAsked = record h { checkpoint = true }
told_after h entry.TerminateSent = record h { terminate = true }
told_after h _ = h

-- it ends children at once, or comes after a crash alone
abbrev pub is_harm : Action → Bool
is_harm (act.Quit why) = true
is_harm act.KillAll = true
is_harm act.Reset = true
is_harm (act.End ending.AfterCrash) = true
is_harm (act.End ending.RestartOff) = true
is_harm _ = false

-- no crash was met, and none is among what is due
pub record IsCalm (h : SoFar) (acts : List Action) (m : Machine) : Type 0 where
  pub calm : machine.IsCalm h.checkpoint acts m
  pub no_harm : has_act is_harm acts ≡ false
  pub ending : not (h.terminate || has_act is_terminate acts) || is_some m.shutdown ≡ true

pub settled_calm : (h : SoFar) (acts : List Action) (m : Machine) → IsCalm h acts m → IsCalm h acts (settled m)
settled_calm h acts m its =
    machine.settled_so (IsCalm h acts) h.checkpoint acts m its.calm its
    (λ gone. record { calm = machine.gone_calm h.checkpoint acts m its.calm gone; no_harm = its.no_harm; ending = its.ending })

-- ---- an act is done

-- what is due gets less, and the machine is the same
less_calm : (h : SoFar) (a : Action) (acts : List Action) (m : Machine) → IsCalm h (a ∷ acts) m → IsCalm h acts m
less_calm h a acts m its =
    record { calm = machine.less_calm h.checkpoint a acts m its.calm; no_harm = grind (arith, its.no_harm); ending = grind (arith, its.ending) }

started_calm : (k : Kind) (h : SoFar) (acts : List Action) (m : Machine) → IsCalm h (act.Start k ∷ acts) m → IsCalm h acts (started_as k m)
started_calm k h acts m its = record { calm = machine.started_calm k h.checkpoint acts m its.calm; no_harm = its.no_harm; ending = same k its.ending }
  where
    same : (x : Kind) → not (h.terminate || has_act is_terminate acts) || is_some m.shutdown ≡ true → not (h.terminate || has_act is_terminate acts) || is_some (started_as x m).shutdown ≡ true
    same kind.Startup is = is
    same _ is = is

pub act_calm : (h : SoFar) (s : Shared) (a : Action) (acts : List Action) (e : PmEvent) (m : Machine) → Fits s (Do a) e → IsCalm h (a ∷ acts) m
    → IsHarmless e × IsCalm (told_after h e) acts (reported e m)
act_calm h s (act.Start k) acts (entry.Started pid given) m fits its =
    (tt, subst (λ (x : Kind). IsCalm h acts (started_as x m)) (sym fits.1) (started_calm k h acts m its))
act_calm h s (act.Quit why) acts (entry.QuitSent reason) m fits its = absurd (true≢false its.no_harm)
act_calm h s act.Terminate acts entry.TerminateSent m fits its =
    (tt, record { calm = machine.less_calm h.checkpoint act.Terminate acts m its.calm; no_harm = its.no_harm; ending = grind (arith, its.ending) })
act_calm h s act.AskCheckpoint acts entry.CheckpointAsked m fits its =
    (tt, record { calm = machine.checkpoint_asked h.checkpoint acts m its.calm; no_harm = its.no_harm; ending = its.ending })
act_calm h s act.Ready acts (entry.Ready generation) m fits its = (tt, less_calm h act.Ready acts m its)
act_calm h s act.Reset acts (entry.Reset generation) m fits its = absurd (true≢false its.no_harm)
act_calm h s (act.Say line) acts (entry.Said written) m fits its = (tt, less_calm h (act.Say line) acts m its)
act_calm h s (act.End ending.AfterCrash) acts (entry.Ended given) m fits its = absurd (true≢false its.no_harm)
act_calm h s (act.End ending.RestartOff) acts (entry.Ended given) m fits its = absurd (true≢false its.no_harm)
act_calm h s (act.End ending.Clean) acts (entry.Ended given) m fits its = (subst IsHarmless (ap entry.Ended (sym fits)) tt, less_calm h (act.End ending.Clean) acts m its)
act_calm h s (act.End ending.StartupFailed) acts (entry.Ended given) m fits its =
    (subst IsHarmless (ap entry.Ended (sym fits)) tt, less_calm h (act.End ending.StartupFailed) acts m its)
act_calm h s a acts e m fits its = absurd fits

-- ---- what happens

pub row_calm : (h : SoFar) (m : Machine) → IsCalm h [] m → IsCalm h (row_of m).acts (row_of m).after
unfolding row_of start_recovery restart_writer end_smart stop_backends backends_gone dead_ends_gone children_gone
row_calm h m its = record {
  calm = machine.row_calm h.checkpoint m its.calm;
  no_harm = grind (arith, its.calm.no_crash, its.calm.asked);
  ending = grind (arith, its.ending, its.calm.asked, its.calm.no_crash);
}

pub accepted_calm : (h : SoFar) (m : Machine) → IsCalm h [] m → IsCalm h [] (accepted_as (decide_of (view_of m)) m)
accepted_calm h m its = record { calm = machine.accepted_calm h.checkpoint m its.calm; no_harm = refl; ending = grind (arith, its.ending) }

-- a request to shut down, smart or fast
pub asked_calm : (h : SoFar) (mode : Mode) (at : ℕ) (m : Machine) → IsUnasked (entry.Asked mode at) → IsCalm h [] m
    → IsCalm h (asked_with (strengthen_of m.shutdown mode) m at).acts (asked_with (strengthen_of m.shutdown mode) m at).after
asked_calm h Smart at m soft its = record { calm = machine.smart_calm h.checkpoint at m its.calm; no_harm = grind arith; ending = grind (arith, its.ending) }
asked_calm h Fast at m soft its = record { calm = machine.fast_calm h.checkpoint at m its.calm; no_harm = grind arith; ending = grind (arith, its.ending) }
asked_calm h Immediate at m soft its = absurd soft

-- nobody is killed
pub no_kill : (h : SoFar) (at : ℕ) (m : Machine) → IsCalm h [] m → (ticked_at m.abort_at m at).acts ≡ act.KillAll ∷ [] → ⊥
no_kill h at m its kills = machine.no_kill h.checkpoint at m its.calm kills

-- ---- the end of a child that is no crash

-- a startup child that brought the data up to date, or gave up for a shutdown
startup_left : (h : SoFar) (m : Machine) (pid : ℕ) (status : Status) (now : ℕ) → IsCalm h [] m → is_not_running m.startup ≡ false
    → is_exit_0 status || (is_exit_1 status && is_some m.shutdown) ≡ true
    → IsCalm h (startup_exited m (record { pid = pid; kind = kind.Startup; status = status; now = now })).acts (startup_exited m (record { pid = pid; kind = kind.Startup; status = status; now = now })).after
unfolding startup_exited crash_rule
startup_left h m pid status now its there ends = record {
  calm = machine.startup_left h.checkpoint m pid status now its.calm there ends;
  no_harm = grind (arith, ends);
  ending = grind (arith, its.ending, ends);
}

-- the checkpointer has made the last checkpoint
checkpointer_left : (h : SoFar) (m : Machine) (pid : ℕ) (status : Status) (now : ℕ) (was_active : Bool) → IsCalm h [] m → is_shutdown m.state ≡ true → is_exit_0 status ≡ true
    → IsCalm h (step m (Exited pid kind.Checkpointer status was_active now)).acts (step m (Exited pid kind.Checkpointer status was_active now)).after
checkpointer_left h m pid status now was_active its shuts ends =
    rw (shuts, ends) (record { calm = machine.checkpoint_made h.checkpoint m its.calm shuts; no_harm = refl; ending = its.ending })

-- another child is there no more
less_one_calm : (k : Kind) (h : SoFar) (m : Machine) → IsCalm h [] m → IsCalm h [] (less_one k m)
less_one_calm k h m its = record { calm = machine.left_calm k h.checkpoint m its.calm; no_harm = refl; ending = same k its.ending }
  where
    same : (x : Kind) → not (h.terminate || false) || is_some m.shutdown ≡ true → not (h.terminate || false) || is_some (less_one x m).shutdown ≡ true
    same kind.Startup is = is
    same _ is = is

-- by its class
normal_left : (ends : Bool) (h : SoFar) (m : Machine) (exit : _) → not (is_normal (cond ends class.Normal class.Crash) || false) ≡ false → IsCalm h [] m
    → IsCalm h (unless_normal (cond ends class.Normal class.Crash) m exit).acts (unless_normal (cond ends class.Normal class.Crash) m exit).after
normal_left true h m exit is its = its
normal_left false h m exit is its = absurd (true≢false is)

pub left_calm : (k : Kind) (h : SoFar) (m : Machine) (pid : ℕ) (status : Status) (was_active : Bool) (at : ℕ) → IsCalm h [] m → (k ≡ kind.Startup → is_not_running m.startup ≡ false)
    → is_crash m (entry.Exited pid k status was_active at) ≡ false
    → IsCalm h (step m (Exited pid k status was_active at)).acts (step m (Exited pid k status was_active at)).after
left_calm kind.Startup h m pid status was_active at its there none =
    startup_left h m pid status at its (there refl) (startup_by (is_exit_0 status) (is_exit_1 status && is_some m.shutdown) none)
  where
    startup_by : (zero gave_up : Bool) → not (is_normal (cond zero class.Normal class.StartupFailed) || gave_up) ≡ false → zero || gave_up ≡ true
    startup_by true gave_up is = refl
    startup_by false true is = refl
    startup_by false false is = sym is
left_calm kind.Checkpointer h m pid status was_active at its there none =
    let both = and_parts (is_exit_0 status) (is_shutdown m.state) (normal_by (is_exit_0 status && is_shutdown m.state) none) in
    checkpointer_left h m pid status at was_active its both.1 both.0
  where
    normal_by : (ends : Bool) → not (is_normal (cond ends class.Normal class.Crash) || false) ≡ false → ends ≡ true
    normal_by true is = refl
    normal_by false is = sym is
left_calm kind.Writer h m pid status was_active at its there none =
    normal_left (is_exit_0 status) h (less_one kind.Writer m) (record { pid = pid; kind = kind.Writer; status = status; now = at }) none
    (less_one_calm kind.Writer h m its)
left_calm k h m pid status was_active at its there none =
    normal_left ((is_exit_0 status || is_exit_1 status) && not was_active) h (less_one k m) (record { pid = pid; kind = k; status = status; now = at }) none
    (less_one_calm k h m its)
