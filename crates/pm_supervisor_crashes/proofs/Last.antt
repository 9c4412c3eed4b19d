-- What the machine keeps behind a crash after which nothing is started.
use Rattle.std.{proofs.{Common.{◌≡◌, ℕ, Bool, true, false, not, ◌&&◌, ◌||◌, List, [], ◌∷◌, refl, sym, ◌∙◌, arith}, lemmas.Bool.true≢false}, specs.Prelude.is_some}
use Rattle.pm_state.{specs.{pm_exit.declared.child.Status.{Status, TheVariants.Code}, pm_modes.{declared.Mode.{Mode, TheVariants.{Smart, Fast, Immediate}}, Strength.strengthen_of}, pm_admit.declared.PmState.PmState, pm_supervisor.{declared.Ending.Ending, Supervisor.Shared}, declared.{action.Action.Action, event.PmEvent.PmEvent, machine.Machine.Machine}, Exits.{crash_rule, is_shutdown, less_one, startup_exited}, Machine.{Exited, accepts_in, step}, Promises.has_act, Requests.{asked_with, ticked_at}, TurnRules.{are_backends_gone, backends_gone, children_gone, dead_ends_gone, end_smart, is_not_running, restart_writer, start_recovery, stop_backends}, Journal.{Do, Fits, reported, row_of, settled}}, proofs.ReplayLaws.Keeps}
use Rattle.pm_state.specs.pm_exit.declared.child.Kind.TheVariants as kind
use Rattle.pm_state.specs.pm_admit.declared.PmState.TheVariants as state
use Rattle.pm_state.specs.pm_supervisor.declared.Ending.TheVariants as ending
use Rattle.pm_state.specs.declared.action.Action.TheVariants as act
use Rattle.pm_state.specs.declared.event.PmEvent.TheVariants as entry
use Rattle.pm_supervisor_crashes.{specs.{Crashes.IsUnasked, Ends.StartsNothing}, proofs.{Calm.{IsCalm, over_after}, ListLaws.EndsBy}}

-- such an entry may stand there, where the server ends so
abbrev pub IsLastEntry : Ending → PmEvent → Type 0
IsLastEntry how e = StartsNothing e × EndsBy how e

-- the server goes on by this act, or ends in a way that isn't such a one
abbrev pub is_more : (Ending → Bool) → Action → Bool
is_more test (act.Start k) = true
is_more test act.Reset = true
is_more test (act.End how) = not (test how)
is_more test _ = false

-- This holds of the machine, and none of these acts is due.
pub record IsLast (Q : Machine → Type 0) (test : Ending → Bool) (over : Bool) (acts : List Action) (m : Machine) : Type 0 where
  pub holds : Q m
  pub none : has_act (is_more test) acts ≡ false

not_more : (b : Bool) → not b || false ≡ false → b ≡ true
not_more true none = refl
not_more false none = sym none

less_more : (test : Ending → Bool) (a : Action) (acts : List Action) → has_act (is_more test) (a ∷ acts) ≡ false → has_act (is_more test) acts ≡ false
less_more test a acts none = grind (arith, none)

ends_so : (test : Ending → Bool) (how : Ending) (acts : List Action) → has_act (is_more test) (act.End how ∷ acts) ≡ false → test how ≡ true
ends_so test how acts none = grind (arith, none)

module _ (Q : Machine → Type 0) (test : Ending → Bool) (how : Ending) (is_how : (x : Ending) → test x ≡ true → x ≡ how) where
  act_last : (over : Bool) (s : Shared) (a : Action) (acts : List Action) (e : PmEvent) (m : Machine) → Fits s (Do a) e → IsLast Q test over (a ∷ acts) m
      → IsLastEntry how e × IsLast Q test (over_after over e) acts (reported e m)
  act_last over s (act.Start k) acts (entry.Started pid given) m fits its = absurd (true≢false its.none)
  act_last over s (act.Quit why) acts (entry.QuitSent reason) m fits its = ((tt, tt), record { holds = its.holds; none = its.none })
  act_last over s act.Terminate acts entry.TerminateSent m fits its = ((tt, tt), record { holds = its.holds; none = its.none })
  act_last over s act.AskCheckpoint acts entry.CheckpointAsked m fits its = ((tt, tt), record { holds = its.holds; none = its.none })
  act_last over s act.Ready acts (entry.Ready generation) m fits its = ((tt, tt), record { holds = its.holds; none = its.none })
  act_last over s act.Reset acts (entry.Reset generation) m fits its = absurd (true≢false its.none)
  act_last over s (act.Say line) acts (entry.Said written) m fits its = ((tt, tt), record { holds = its.holds; none = its.none })
  act_last over s (act.End x) acts (entry.Ended given) m fits its =
      ((tt, fits ∙ is_how x (ends_so test x acts its.none)), record { holds = its.holds; none = less_more test (act.End x) acts its.none })
  act_last over s a acts e m fits its = absurd fits

  -- where its rows and its settling keep it
  pub keeps_last : ((over : Bool) (m : Machine) → m.ended ≡ false → IsLast Q test over [] m → IsLast Q test over (row_of m).acts (row_of m).after)
      → ((m : Machine) → Q m → Q (settled m)) → Keeps Bool over_after (IsLast Q test) (IsLastEntry how)
  keeps_last row settles = record {
    acted = act_last;
    redo = λ over generation kept acts m its. ((tt, tt), its);
    row = row;
    settled = λ over acts m its. record { holds = settles m its.holds; none = its.none };
  }

-- ---- a startup child that failed

abbrev pub is_startup_failed : Ending → Bool
is_startup_failed ending.StartupFailed = true
is_startup_failed _ = false

startup_failed : (x : Ending) → is_startup_failed x ≡ true → x ≡ ending.StartupFailed
startup_failed ending.StartupFailed is = refl
startup_failed ending.Clean is = absurd (true≢false (sym is))
startup_failed ending.AfterCrash is = absurd (true≢false (sym is))
startup_failed ending.RestartOff is = absurd (true≢false (sym is))

abbrev pub HasEnded : Machine → Type 0
HasEnded m = m.ended ≡ true

settled_ended : (m : Machine) → HasEnded m → HasEnded (settled m)
unfolding settled backends_gone dead_ends_gone
settled_ended m ended = grind (arith, ended)

pub keeps_failed : Keeps Bool over_after (IsLast HasEnded is_startup_failed) (IsLastEntry ending.StartupFailed)
keeps_failed =
    keeps_last HasEnded is_startup_failed ending.StartupFailed startup_failed
    (λ over m on its. absurd (true≢false (sym its.holds ∙ on))) settled_ended

-- where it had none to give up for, the server ends
pub startup_fails : (over : Bool) (m : Machine) (pid : ℕ) (now : ℕ) → IsCalm over [] m → is_not_running m.startup ≡ false → is_some m.shutdown ≡ false
    → IsLast HasEnded is_startup_failed true (startup_exited m (record { pid = pid; kind = kind.Startup; status = Code 1; now = now })).acts
    (startup_exited m (record { pid = pid; kind = kind.Startup; status = Code 1; now = now })).after
unfolding startup_exited crash_rule
startup_fails over m pid now its there unasked = record {
  holds = grind (arith, its.starting, its.not_told, there, unasked);
  none = grind (arith, its.starting, its.not_told, there, unasked);
}

-- ---- a checkpointer that couldn't make the last checkpoint

abbrev pub is_after_crash : Ending → Bool
is_after_crash ending.AfterCrash = true
is_after_crash _ = false

after_crash : (x : Ending) → is_after_crash x ≡ true → x ≡ ending.AfterCrash
after_crash ending.AfterCrash is = refl
after_crash ending.Clean is = absurd (true≢false (sym is))
after_crash ending.StartupFailed is = absurd (true≢false (sym is))
after_crash ending.RestartOff is = absurd (true≢false (sym is))

-- children that refuse a connection are waited for, or none is left
abbrev is_late : PmState → Bool
is_late state.WaitDeadEnd = true
is_late state.NoChildren = true
is_late _ = false

-- a crash was noticed in a shutdown, and no other child is left than such ones
abbrev pub IsLeft : Machine → Type 0
IsLeft m = m.fatal && (is_some m.shutdown && (is_late m.state && (are_backends_gone m && not m.checkpointer))) ≡ true

settled_left : (m : Machine) → IsLeft m → IsLeft (settled m)
unfolding settled backends_gone dead_ends_gone
settled_left m left = grind (arith, left)

row_left : (over : Bool) (m : Machine) → m.ended ≡ false → IsLast IsLeft is_after_crash over [] m → IsLast IsLeft is_after_crash over (row_of m).acts (row_of m).after
unfolding row_of start_recovery restart_writer end_smart stop_backends backends_gone dead_ends_gone children_gone
row_left over m on its = record { holds = grind (arith, its.holds); none = grind (arith, its.holds) }

pub keeps_left : Keeps Bool over_after (IsLast IsLeft is_after_crash) (IsLastEntry ending.AfterCrash)
keeps_left = keeps_last IsLeft is_after_crash ending.AfterCrash after_crash row_left settled_left

-- no connection is accepted
pub none_accepted : (m : Machine) → IsLeft m → accepts_in m.state ≡ true → ⊥
none_accepted m left accepts = grind (arith, left, accepts)

pub asked_left : (over : Bool) (mode : Mode) (at : ℕ) (m : Machine) → IsUnasked (entry.Asked mode at) → IsLast IsLeft is_after_crash over [] m
    → IsLast IsLeft is_after_crash over (asked_with (strengthen_of m.shutdown mode) m at).acts (asked_with (strengthen_of m.shutdown mode) m at).after
asked_left over Smart at m soft its = record { holds = grind (arith, its.holds); none = grind (arith, its.holds) }
asked_left over Fast at m soft its = record { holds = grind (arith, its.holds); none = grind (arith, its.holds) }
asked_left over Immediate at m soft its = absurd soft

pub ticked_left : (over : Bool) (at : ℕ) (m : Machine) → IsLast IsLeft is_after_crash over [] m → IsLast IsLeft is_after_crash over [] (ticked_at m.abort_at m at).after
ticked_left over at m its = record { holds = grind (arith, its.holds); none = refl }

-- none but such a child is there
pub nobody_left : (m : Machine) → IsLeft m → (m.children ≡ 0) × (is_not_running m.startup ≡ true) × (m.checkpointer ≡ false) × (m.writer ≡ false)
nobody_left m left = (grind (arith, left), grind (arith, left), grind (arith, left), grind (arith, left))

pub dead_end_left : (over : Bool) (m : Machine) (pid : ℕ) (status : Status) (was_active : Bool) (at : ℕ) → IsLast IsLeft is_after_crash over [] m
    → IsLast IsLeft is_after_crash (over || false) (step m (Exited pid kind.DeadEnd status was_active at)).acts (step m (Exited pid kind.DeadEnd status was_active at)).after
unfolding crash_rule
dead_end_left over m pid status was_active at its = record { holds = grind (arith, its.holds); none = grind (arith, its.holds) }

-- behind the crash no child is waited for but such ones
crash_left : (over : Bool) (m : Machine) (exit : _) → IsCalm over [] m → is_shutdown m.state ≡ true
    → IsLast IsLeft is_after_crash over (crash_rule (less_one kind.Checkpointer m) exit).acts (settled (crash_rule (less_one kind.Checkpointer m) exit).after)
unfolding crash_rule settled backends_gone dead_ends_gone
crash_left over m exit its shuts = record {
  holds = grind (arith, its.asked, its.closing, its.no_crash, its.not_immediate, shuts);
  none = grind (arith, its.no_crash, its.not_immediate);
}

pub checkpointer_crashes : (over : Bool) (m : Machine) (pid : ℕ) (was_active : Bool) (now : ℕ) → IsCalm over [] m → is_shutdown m.state ≡ true
    → IsLast IsLeft is_after_crash over (step m (Exited pid kind.Checkpointer (Code 1) was_active now)).acts (settled (step m (Exited pid kind.Checkpointer (Code 1) was_active now)).after)
checkpointer_crashes over m pid was_active now its shuts =
    crash_left over m (record { pid = pid; kind = kind.Checkpointer; status = Code 1; now = now }) its shuts
