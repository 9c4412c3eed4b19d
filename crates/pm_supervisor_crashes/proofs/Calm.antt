-- What the machine keeps where no child crashes and nobody asks to stop at once.
use Rattle.std.{proofs.{Common.{◌≡◌, ◌⊎◌, inl, inr, ℕ, Bool, true, false, not, cond, ◌&&◌, ◌||◌, List, [], ◌∷◌, refl, sym, subst, arith}, lemmas.Bool.{and_parts, true≢false}}, specs.Prelude.is_some}
use Rattle.pm_state.specs.{pm_exit.{declared.child.{Kind.Kind, Status.{Status, TheVariants.Code}}, Ends.{is_exit_0, is_exit_1}}, pm_modes.{declared.Mode.{Mode, TheVariants.{Smart, Fast, Immediate}}, Strength.{is_immediate, strengthen_of}}, pm_admit.{declared.PmState.PmState, Admission.{decide_of, is_run, is_startup}}, pm_supervisor.{declared.Limits.Limits, Children.is_startup_child, Steps.is_normal, Supervisor.Shared}, declared.{action.Action.Action, event.PmEvent.PmEvent, machine.Machine.Machine}, Exits.{crash_rule, is_shutdown, less_one, startup_exited, unless_normal}, Facts.is_init, Known.is_signalled, Machine.{Exited, accepted_as, begun, started_as, step, view_of}, Promises.has_act, Requests.{asked_with, ticked_at}, TurnRules.{are_backends_gone, backends_gone, children_gone, dead_ends_gone, end_smart, is_not_running, restart_writer, start_recovery, stop_backends}, Journal.{Do, Fits, reported, row_of, settled}}
use Rattle.pm_state.specs.pm_exit.declared.child.Kind.TheVariants as kind
use Rattle.pm_state.specs.pm_exit.declared.child.Class.TheVariants as class
use Rattle.pm_state.specs.pm_admit.declared.PmState.TheVariants as state
use Rattle.pm_state.specs.pm_supervisor.declared.Ending.TheVariants as ending
use Rattle.pm_state.specs.declared.action.Action.TheVariants as act
use Rattle.pm_state.specs.declared.event.PmEvent.TheVariants as entry
use Rattle.pm_supervisor_crashes.{specs.{Crashes.{IsUnasked, is_crash}, Ends.{EndsStartupByCode, IsNoReset}}, proofs.ListLaws.EndsBy}

-- ---- what holds

-- whether a startup child has ended
abbrev pub over_after : Bool → PmEvent → Bool
over_after over (entry.Exited pid k status was_active at) = over || is_startup_child k
over_after over _ = over

-- such an act comes after a crash alone
abbrev is_harm : Action → Bool
is_harm act.Reset = true
is_harm (act.End ending.AfterCrash) = true
is_harm (act.End ending.RestartOff) = true
is_harm (act.End ending.StartupFailed) = true
is_harm _ = false

abbrev is_writer_start : Action → Bool
is_writer_start (act.Start kind.Writer) = true
is_writer_start _ = false

-- a shutdown was asked for where the machine is so
abbrev is_asked_in : PmState → Bool → Bool
is_asked_in state.Run conns = not conns
is_asked_in state.StopBackends conns = true
is_asked_in state.WaitBackends conns = true
is_asked_in state.Shutdown conns = true
is_asked_in state.WaitDeadEnd conns = true
is_asked_in state.NoChildren conns = true
is_asked_in _ conns = false

-- No crash was noticed. A startup child has ended, where this says so.
pub record IsCalm (over : Bool) (acts : List Action) (m : Machine) : Type 0 where
  pub no_crash : m.fatal ≡ false
  pub not_immediate : is_immediate m.shutdown ≡ false
  pub asked : not (is_asked_in m.state m.conns) || is_some m.shutdown ≡ true
  pub not_told : is_signalled m.startup ≡ false
  pub starting : is_not_running m.startup || (is_some m.shutdown || is_startup m.state) ≡ true
  pub closing : not (is_shutdown m.state) || are_backends_gone m ≡ true
  pub once : not over || (is_not_running m.startup && not (is_init m.state)) ≡ true
  pub no_harm : has_act is_harm acts ≡ false
  pub writers : not (has_act is_writer_start acts) || is_run m.state ≡ true

-- by such an entry no generation begins, the server ends clean alone, and a startup child with code 0 or 1 alone
abbrev pub IsCalmEntry : PmEvent → Type 0
IsCalmEntry e = IsNoReset e × EndsBy ending.Clean e × EndsStartupByCode e

-- ---- settling

settled_does : (m : Machine) → m.fatal ≡ false → is_immediate m.shutdown ≡ false → (settled m ≡ m) ⊎ ((settled m ≡ record m { state = state.NoChildren }) × (m.state ≡ state.WaitDeadEnd))
unfolding settled backends_gone dead_ends_gone
settled_does m no_crash not_immediate = grind arith

gone_calm : (over : Bool) (acts : List Action) (m : Machine) → IsCalm over acts m → m.state ≡ state.WaitDeadEnd → IsCalm over acts (record m { state = state.NoChildren })
gone_calm over acts m its last = record {
  no_crash = its.no_crash;
  not_immediate = its.not_immediate;
  asked = grind (arith, its.asked, last);
  not_told = its.not_told;
  starting = grind (arith, its.starting, last);
  closing = grind (arith, its.closing, last);
  once = grind (arith, its.once, last);
  no_harm = its.no_harm;
  writers = grind (arith, its.writers, last);
}

pub settled_calm : (over : Bool) (acts : List Action) (m : Machine) → IsCalm over acts m → IsCalm over acts (settled m)
settled_calm over acts m its = elim (settled_does m its.no_crash its.not_immediate) as (λ _. IsCalm over acts (settled m)) [
  | inl same ↦ subst (IsCalm over acts) (sym same) its
  | inr last ↦ subst (IsCalm over acts) (sym last.0) (gone_calm over acts m its last.1)
]

-- ---- an act is done

-- what is due gets less, and the machine is the same
less_calm : (over : Bool) (a : Action) (acts : List Action) (m : Machine) → IsCalm over (a ∷ acts) m → IsCalm over acts m
less_calm over a acts m its = record {
  no_crash = its.no_crash;
  not_immediate = its.not_immediate;
  asked = its.asked;
  not_told = its.not_told;
  starting = its.starting;
  closing = its.closing;
  once = its.once;
  no_harm = grind (arith, its.no_harm);
  writers = grind (arith, its.writers);
}

started_calm : (k : Kind) (over : Bool) (acts : List Action) (m : Machine) → IsCalm over (act.Start k ∷ acts) m → IsCalm over acts (started_as k m)
started_calm kind.Writer over acts m its = record {
  no_crash = its.no_crash;
  not_immediate = its.not_immediate;
  asked = its.asked;
  not_told = its.not_told;
  starting = its.starting;
  closing = grind (arith, its.closing, its.writers);
  once = its.once;
  no_harm = its.no_harm;
  writers = grind (arith, its.writers);
}
started_calm kind.Startup over acts m its = record {
  no_crash = its.no_crash;
  not_immediate = its.not_immediate;
  asked = its.asked;
  not_told = its.not_told;
  starting = its.starting;
  closing = its.closing;
  once = its.once;
  no_harm = its.no_harm;
  writers = its.writers;
}
started_calm kind.Checkpointer over acts m its = record {
  no_crash = its.no_crash;
  not_immediate = its.not_immediate;
  asked = its.asked;
  not_told = its.not_told;
  starting = its.starting;
  closing = its.closing;
  once = its.once;
  no_harm = its.no_harm;
  writers = its.writers;
}
started_calm k over acts m its = less_calm over (act.Start k) acts m its

clean_entry : (given : _) → given ≡ ending.Clean → IsCalmEntry (entry.Ended given)
clean_entry given is = (tt, is, tt)

pub act_calm : (over : Bool) (s : Shared) (a : Action) (acts : List Action) (e : PmEvent) (m : Machine) → Fits s (Do a) e → IsCalm over (a ∷ acts) m
    → IsCalmEntry e × IsCalm (over_after over e) acts (reported e m)
act_calm over s (act.Start k) acts (entry.Started pid given) m fits its =
    ((tt, tt, tt), subst (λ (x : Kind). IsCalm over acts (started_as x m)) (sym fits.1) (started_calm k over acts m its))
act_calm over s (act.Quit why) acts (entry.QuitSent reason) m fits its = ((tt, tt, tt), less_calm over (act.Quit why) acts m its)
act_calm over s act.Terminate acts entry.TerminateSent m fits its = ((tt, tt, tt), less_calm over act.Terminate acts m its)
act_calm over s act.AskCheckpoint acts entry.CheckpointAsked m fits its = ((tt, tt, tt), less_calm over act.AskCheckpoint acts m its)
act_calm over s act.Ready acts (entry.Ready generation) m fits its = ((tt, tt, tt), less_calm over act.Ready acts m its)
act_calm over s act.Reset acts (entry.Reset generation) m fits its = absurd (true≢false its.no_harm)
act_calm over s (act.Say line) acts (entry.Said written) m fits its = ((tt, tt, tt), less_calm over (act.Say line) acts m its)
act_calm over s (act.End ending.AfterCrash) acts (entry.Ended given) m fits its = absurd (true≢false its.no_harm)
act_calm over s (act.End ending.RestartOff) acts (entry.Ended given) m fits its = absurd (true≢false its.no_harm)
act_calm over s (act.End ending.StartupFailed) acts (entry.Ended given) m fits its = absurd (true≢false its.no_harm)
act_calm over s (act.End ending.Clean) acts (entry.Ended given) m fits its = (clean_entry given fits, less_calm over (act.End ending.Clean) acts m its)
act_calm over s a acts e m fits its = absurd fits

-- ---- what happens

pub row_calm : (over : Bool) (m : Machine) → IsCalm over [] m → IsCalm over (row_of m).acts (row_of m).after
unfolding row_of start_recovery restart_writer end_smart stop_backends backends_gone dead_ends_gone children_gone
row_calm over m its = record {
  no_crash = grind (arith, its.no_crash);
  not_immediate = grind (arith, its.not_immediate);
  asked = grind (arith, its.asked, its.no_crash);
  not_told = grind (arith, its.not_told);
  starting = grind (arith, its.starting, its.asked);
  closing = grind (arith, its.closing, its.asked, its.no_crash);
  once = grind (arith, its.once, its.asked, its.no_crash);
  no_harm = grind (arith, its.no_crash, its.asked);
  writers = grind arith;
}

pub accepted_calm : (over : Bool) (m : Machine) → IsCalm over [] m → IsCalm over [] (accepted_as (decide_of (view_of m)) m)
accepted_calm over m its = record {
  no_crash = grind (arith, its.no_crash);
  not_immediate = grind (arith, its.not_immediate);
  asked = grind (arith, its.asked);
  not_told = grind (arith, its.not_told);
  starting = grind (arith, its.starting);
  closing = grind (arith, its.closing);
  once = grind (arith, its.once);
  no_harm = refl;
  writers = refl;
}

-- a request to shut down, smart or fast
pub asked_calm : (over : Bool) (mode : Mode) (at : ℕ) (m : Machine) → IsUnasked (entry.Asked mode at) → IsCalm over [] m
    → IsCalm over (asked_with (strengthen_of m.shutdown mode) m at).acts (asked_with (strengthen_of m.shutdown mode) m at).after
asked_calm over Smart at m soft its = record {
  no_crash = grind (arith, its.no_crash);
  not_immediate = grind (arith, its.not_immediate);
  asked = grind (arith, its.asked);
  not_told = grind (arith, its.not_told);
  starting = grind (arith, its.starting);
  closing = grind (arith, its.closing);
  once = grind (arith, its.once);
  no_harm = grind arith;
  writers = grind arith;
}
asked_calm over Fast at m soft its = record {
  no_crash = grind (arith, its.no_crash);
  not_immediate = grind (arith, its.not_immediate);
  asked = grind (arith, its.asked);
  not_told = grind (arith, its.not_told);
  starting = grind (arith, its.starting);
  closing = grind (arith, its.closing);
  once = grind (arith, its.once);
  no_harm = grind arith;
  writers = grind arith;
}
asked_calm over Immediate at m soft its = absurd soft

-- nobody is killed
pub no_kill : (over : Bool) (at : ℕ) (m : Machine) → IsCalm over [] m → (ticked_at m.abort_at m at).acts ≡ act.KillAll ∷ [] → ⊥
no_kill over at m its kills = grind (arith, its.no_crash, its.not_immediate, kills)

-- ---- the end of a child that is no crash

code_of : (status : Status) → is_exit_0 status || is_exit_1 status ≡ true → (status ≡ Code 0) ⊎ (status ≡ Code 1)
code_of status ends = grind (arith, ends)

-- a startup child that brought the data up to date, or gave up for a shutdown
startup_left : (over : Bool) (m : Machine) (pid : ℕ) (status : Status) (now : ℕ) → IsCalm over [] m → is_not_running m.startup ≡ false
    → is_exit_0 status || (is_exit_1 status && is_some m.shutdown) ≡ true
    → IsCalm true (startup_exited m (record { pid = pid; kind = kind.Startup; status = status; now = now })).acts (startup_exited m (record { pid = pid; kind = kind.Startup; status = status; now = now })).after
unfolding startup_exited crash_rule
startup_left over m pid status now its there ends = record {
  no_crash = grind (arith, its.no_crash, ends);
  not_immediate = grind (arith, its.not_immediate, ends);
  asked = grind (arith, its.asked, ends);
  not_told = grind (arith, ends);
  starting = grind (arith, ends);
  closing = grind (arith, its.closing, there, ends);
  once = grind (arith, ends);
  no_harm = grind (arith, ends);
  writers = grind (arith, ends);
}

-- the checkpointer has made the last checkpoint
checkpointer_left : (over : Bool) (m : Machine) (pid : ℕ) (status : Status) (now : ℕ) (was_active : Bool) → IsCalm over [] m → is_shutdown m.state ≡ true → is_exit_0 status ≡ true
    → IsCalm over (step m (Exited pid kind.Checkpointer status was_active now)).acts (step m (Exited pid kind.Checkpointer status was_active now)).after
checkpointer_left over m pid status now was_active its shuts ends = rw (shuts, ends) (record {
  no_crash = its.no_crash;
  not_immediate = its.not_immediate;
  asked = grind (arith, its.asked, shuts);
  not_told = its.not_told;
  starting = grind (arith, its.closing, shuts);
  closing = refl;
  once = grind (arith, its.once);
  no_harm = refl;
  writers = refl;
})

-- another child is there no more
less_one_calm : (k : Kind) (over : Bool) (m : Machine) → is_startup_child k ≡ false → IsCalm over [] m → IsCalm over [] (less_one k m)
less_one_calm k over m other its = record {
  no_crash = grind (arith, its.no_crash);
  not_immediate = grind (arith, its.not_immediate);
  asked = grind (arith, its.asked);
  not_told = grind (arith, its.not_told);
  starting = grind (arith, its.starting);
  closing = grind (arith, its.closing);
  once = grind (arith, its.once);
  no_harm = refl;
  writers = refl;
}

-- by its class
normal_left : (ends : Bool) (over : Bool) (m : Machine) (exit : _) → not (is_normal (cond ends class.Normal class.Crash) || false) ≡ false → IsCalm over [] m
    → IsCalm over (unless_normal (cond ends class.Normal class.Crash) m exit).acts (unless_normal (cond ends class.Normal class.Crash) m exit).after
normal_left true over m exit is its = its
normal_left false over m exit is its = absurd (true≢false is)

-- what it leaves, and what its entry says
abbrev LeavesCalm : Kind → Bool → Machine → (pid : ℕ) → Status → Bool → (at : ℕ) → Type 0
LeavesCalm k over m pid status was_active at =
    IsCalmEntry (entry.Exited pid k status was_active at)
    × IsCalm (over || is_startup_child k) (step m (Exited pid k status was_active at)).acts (step m (Exited pid k status was_active at)).after

pub not_over : (over : Bool) (m : Machine) → IsCalm over [] m → is_not_running m.startup ≡ false → over ≡ false
not_over over m its there = grind (arith, its.once, there)

same_over : (over : Bool) (acts : List Action) (m : Machine) → IsCalm over acts m → IsCalm (over || false) acts m
same_over true acts m its = its
same_over false acts m its = its

pub left_calm : (k : Kind) (over : Bool) (m : Machine) (pid : ℕ) (status : Status) (was_active : Bool) (at : ℕ) → IsCalm over [] m → (k ≡ kind.Startup → is_not_running m.startup ≡ false)
    → is_crash m (entry.Exited pid k status was_active at) ≡ false → LeavesCalm k over m pid status was_active at
left_calm kind.Startup over m pid status was_active at its there none =
    let ends = startup_by (is_exit_0 status) (is_exit_1 status && is_some m.shutdown) none in (
      (tt, tt, code_of status (grind (arith, ends))),
      subst (λ (x : Bool). IsCalm (x || true) (step m (Exited pid kind.Startup status was_active at)).acts (step m (Exited pid kind.Startup status was_active at)).after)
          (sym (not_over over m its (there refl))) (startup_left over m pid status at its (there refl) ends),
    )
  where
    startup_by : (zero gave_up : Bool) → not (is_normal (cond zero class.Normal class.StartupFailed) || gave_up) ≡ false → zero || gave_up ≡ true
    startup_by true gave_up is = refl
    startup_by false true is = refl
    startup_by false false is = sym is
left_calm kind.Checkpointer over m pid status was_active at its there none =
    let both = and_parts (is_exit_0 status) (is_shutdown m.state) (normal_by (is_exit_0 status && is_shutdown m.state) none) in
    ((tt, tt, tt), same_over over _ _ (checkpointer_left over m pid status at was_active its both.1 both.0))
  where
    normal_by : (ends : Bool) → not (is_normal (cond ends class.Normal class.Crash) || false) ≡ false → ends ≡ true
    normal_by true is = refl
    normal_by false is = sym is
left_calm kind.Writer over m pid status was_active at its there none = (
  (tt, tt, tt),
  same_over over _ _ (normal_left (is_exit_0 status) over (less_one kind.Writer m) (record { pid = pid; kind = kind.Writer; status = status; now = at }) none
      (less_one_calm kind.Writer over m refl its)),
)
left_calm k over m pid status was_active at its there none = (
  (tt, tt, tt),
  same_over over _ _ (normal_left ((is_exit_0 status || is_exit_1 status) && not was_active) over (less_one k m) (record { pid = pid; kind = k; status = status; now = at }) none
      (less_one_calm k over m refl its)),
)

pub begun_calm : (limits : Limits) → IsCalm false [] (begun limits)
begun_calm limits = record {
  no_crash = refl;
  not_immediate = refl;
  asked = refl;
  not_told = refl;
  starting = refl;
  closing = refl;
  once = refl;
  no_harm = refl;
  writers = refl;
}
