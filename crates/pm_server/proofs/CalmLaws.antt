-- What the machine keeps where no child crashes and nobody asks to stop at once: that the last checkpoint is asked for in a shutdown
-- alone, once no other child is left.
use Rattle.std.{proofs.Common.{◌≡◌, ◌⊎◌, inl, inr, ℕ, Bool, true, false, not, ◌&&◌, ◌||◌, List, [], ◌∷◌, refl, sym, ap, subst, arith}, specs.Prelude.is_some}
use Rattle.pm_state.specs.{pm_exit.{declared.child.{Kind.Kind, Status.Status}, Ends.{is_exit_0, is_exit_1}}, pm_modes.{declared.Mode.TheVariants.{Smart, Fast}, Strength.{is_immediate, strengthen_of}}, pm_supervisor.declared.Limits.Limits, declared.{action.Action.Action, machine.Machine.Machine}, Exits.{crash_rule, is_shutdown, less_one, startup_exited}, Machine.{accepted_as, begun, started_as, view_of}, Promises.{has_act, is_ask_checkpoint}, Requests.{asked_with, ticked_at}, TurnRules.{are_backends_gone, backends_gone, children_gone, dead_ends_gone, end_smart, is_not_running, restart_writer, start_recovery, stop_backends}, Journal.{row_of, settled}}
use Rattle.pm_state.specs.pm_exit.declared.child.Kind.TheVariants as kind
use Rattle.pm_session.specs.pm_admit.{declared.PmState.PmState, Admission.{decide_of, is_run}}
use Rattle.pm_session.specs.pm_admit.declared.PmState.TheVariants as state
use Rattle.pm_state.specs.declared.action.Action.TheVariants as act

-- ---- what holds

abbrev is_checkpointer_start : Action → Bool
is_checkpointer_start (act.Start kind.Checkpointer) = true
is_checkpointer_start _ = false

abbrev is_writer_start : Action → Bool
is_writer_start (act.Start kind.Writer) = true
is_writer_start _ = false

-- a shutdown was asked for where the machine is so
abbrev is_asked_in : PmState → Bool → Bool
is_asked_in state.Run conns = not conns
is_asked_in state.StopBackends conns = true
is_asked_in state.WaitBackends conns = true
is_asked_in state.Shutdown conns = true
is_asked_in state.WaitDeadEnd conns = true
is_asked_in state.NoChildren conns = true
is_asked_in _ conns = false

-- the last checkpoint was made, or a crash left none to make
abbrev pub is_late : PmState → Bool
is_late state.WaitDeadEnd = true
is_late state.NoChildren = true
is_late _ = false

-- it waits for the last checkpoint, or that was made, and no other child is left
abbrev pub is_closing : Machine → Bool
is_closing m = is_some m.shutdown && (are_backends_gone m && (is_shutdown m.state || (is_late m.state && not m.checkpointer)))

-- No crash was noticed. The last checkpoint was asked for, where this says so.
pub record IsCalm (checkpoint : Bool) (acts : List Action) (m : Machine) : Type 0 where
  pub no_crash : m.fatal ≡ false
  pub not_immediate : is_immediate m.shutdown ≡ false
  pub asked : not (is_asked_in m.state m.conns) || is_some m.shutdown ≡ true
  pub closing : not (checkpoint || has_act is_ask_checkpoint acts) || is_closing m ≡ true
  pub starts : not (has_act is_checkpointer_start acts) || (is_run m.state || is_shutdown m.state) ≡ true
  pub writers : not (has_act is_writer_start acts) || is_run m.state ≡ true

-- a checkpointer that is there then makes the last checkpoint
pub shuts : (m : Machine) → is_closing m ≡ true → m.checkpointer ≡ true → is_shutdown m.state ≡ true
shuts m closing there = grind (arith, closing, there)

-- ---- settling

settled_does : (m : Machine) → m.fatal ≡ false → is_immediate m.shutdown ≡ false → (settled m ≡ m) ⊎ ((settled m ≡ record m { state = state.NoChildren }) × (m.state ≡ state.WaitDeadEnd))
unfolding settled backends_gone dead_ends_gone
settled_does m no_crash not_immediate = grind arith

-- what holds of the machine, and of it without children, holds of the settled one
pub settled_so : (P : Machine → Type 0) (checkpoint : Bool) (acts : List Action) (m : Machine) → IsCalm checkpoint acts m → P m
    → (m.state ≡ state.WaitDeadEnd → P (record m { state = state.NoChildren })) → P (settled m)
settled_so P checkpoint acts m calm here gone = elim (settled_does m calm.no_crash calm.not_immediate) as (λ _. P (settled m)) [
  | inl same ↦ subst P (sym same) here
  | inr last ↦ subst P (sym last.0) (gone last.1)
]

pub gone_calm : (checkpoint : Bool) (acts : List Action) (m : Machine) → IsCalm checkpoint acts m → m.state ≡ state.WaitDeadEnd → IsCalm checkpoint acts (record m { state = state.NoChildren })
gone_calm checkpoint acts m calm last = record {
  no_crash = calm.no_crash;
  not_immediate = calm.not_immediate;
  asked = grind (arith, calm.asked, last);
  closing = grind (arith, calm.closing, last);
  starts = grind (arith, calm.starts, last);
  writers = grind (arith, calm.writers, last);
}

-- ---- an act is done

-- what is due gets less, and the machine is the same
pub less_calm : (checkpoint : Bool) (a : Action) (acts : List Action) (m : Machine) → IsCalm checkpoint (a ∷ acts) m → IsCalm checkpoint acts m
less_calm checkpoint a acts m calm = record {
  no_crash = calm.no_crash;
  not_immediate = calm.not_immediate;
  asked = calm.asked;
  closing = grind (arith, calm.closing);
  starts = grind (arith, calm.starts);
  writers = grind (arith, calm.writers);
}

pub started_calm : (k : Kind) (checkpoint : Bool) (acts : List Action) (m : Machine) → IsCalm checkpoint (act.Start k ∷ acts) m → IsCalm checkpoint acts (started_as k m)
started_calm kind.Startup checkpoint acts m calm = record {
  no_crash = calm.no_crash;
  not_immediate = calm.not_immediate;
  asked = calm.asked;
  closing = grind (arith, calm.closing);
  starts = calm.starts;
  writers = calm.writers;
}
started_calm kind.Checkpointer checkpoint acts m calm = record {
  no_crash = calm.no_crash;
  not_immediate = calm.not_immediate;
  asked = calm.asked;
  closing = grind (arith, calm.closing, calm.starts);
  starts = grind (arith, calm.starts);
  writers = calm.writers;
}
started_calm kind.Writer checkpoint acts m calm = record {
  no_crash = calm.no_crash;
  not_immediate = calm.not_immediate;
  asked = calm.asked;
  closing = grind (arith, calm.closing, calm.writers);
  starts = calm.starts;
  writers = grind (arith, calm.writers);
}
started_calm kind.Worker checkpoint acts m calm = less_calm checkpoint (act.Start kind.Worker) acts m calm
started_calm kind.Backend checkpoint acts m calm = less_calm checkpoint (act.Start kind.Backend) acts m calm
started_calm kind.DeadEnd checkpoint acts m calm = less_calm checkpoint (act.Start kind.DeadEnd) acts m calm

-- the last checkpoint is asked for
pub checkpoint_asked : (checkpoint : Bool) (acts : List Action) (m : Machine) → IsCalm checkpoint (act.AskCheckpoint ∷ acts) m → IsCalm true acts m
checkpoint_asked checkpoint acts m calm = record {
  no_crash = calm.no_crash;
  not_immediate = calm.not_immediate;
  asked = calm.asked;
  closing = grind (arith, calm.closing);
  starts = calm.starts;
  writers = calm.writers;
}

-- or what was asked for counts no more
pub unasked_calm : (checkpoint : Bool) (acts : List Action) (m : Machine) → IsCalm checkpoint acts m → IsCalm false acts m
unasked_calm checkpoint acts m calm = record {
  no_crash = calm.no_crash;
  not_immediate = calm.not_immediate;
  asked = calm.asked;
  closing = grind (arith, calm.closing);
  starts = calm.starts;
  writers = calm.writers;
}

-- ---- what happens

pub row_calm : (checkpoint : Bool) (m : Machine) → IsCalm checkpoint [] m → IsCalm checkpoint (row_of m).acts (row_of m).after
unfolding row_of start_recovery restart_writer end_smart stop_backends backends_gone dead_ends_gone children_gone
row_calm checkpoint m calm = record {
  no_crash = grind (arith, calm.no_crash);
  not_immediate = grind (arith, calm.not_immediate);
  asked = grind (arith, calm.asked, calm.no_crash);
  closing = grind (arith, calm.closing, calm.asked, calm.no_crash);
  starts = grind arith;
  writers = grind arith;
}

pub accepted_calm : (checkpoint : Bool) (m : Machine) → IsCalm checkpoint [] m → IsCalm checkpoint [] (accepted_as (decide_of (view_of m)) m)
accepted_calm checkpoint m calm = record {
  no_crash = grind (arith, calm.no_crash);
  not_immediate = grind (arith, calm.not_immediate);
  asked = grind (arith, calm.asked);
  closing = grind (arith, calm.closing);
  starts = refl;
  writers = refl;
}

-- a smart shutdown is no end of the wait for the last checkpoint
smart_closing : (checkpoint : Bool) (at : ℕ) (m : Machine) → not (checkpoint || false) || is_closing m ≡ true
    → not (checkpoint || has_act is_ask_checkpoint (asked_with (strengthen_of m.shutdown Smart) m at).acts) || is_closing (asked_with (strengthen_of m.shutdown Smart) m at).after ≡ true
smart_closing false at m closing = ap (λ (b : Bool). not b || is_closing (asked_with (strengthen_of m.shutdown Smart) m at).after) none
  where
    none : has_act is_ask_checkpoint (asked_with (strengthen_of m.shutdown Smart) m at).acts ≡ false
    none = grind arith
smart_closing true at m closing = grind (arith, closing)

-- a request to shut down, smart or fast
pub smart_calm : (checkpoint : Bool) (at : ℕ) (m : Machine) → IsCalm checkpoint [] m
    → IsCalm checkpoint (asked_with (strengthen_of m.shutdown Smart) m at).acts (asked_with (strengthen_of m.shutdown Smart) m at).after
smart_calm checkpoint at m calm = record {
  no_crash = grind (arith, calm.no_crash);
  not_immediate = grind (arith, calm.not_immediate);
  asked = grind (arith, calm.asked);
  closing = smart_closing checkpoint at m calm.closing;
  starts = grind arith;
  writers = grind arith;
}

pub fast_calm : (checkpoint : Bool) (at : ℕ) (m : Machine) → IsCalm checkpoint [] m
    → IsCalm checkpoint (asked_with (strengthen_of m.shutdown Fast) m at).acts (asked_with (strengthen_of m.shutdown Fast) m at).after
fast_calm checkpoint at m calm = record {
  no_crash = grind (arith, calm.no_crash);
  not_immediate = grind (arith, calm.not_immediate);
  asked = grind (arith, calm.asked);
  closing = grind (arith, calm.closing);
  starts = grind arith;
  writers = grind arith;
}

-- nobody is killed
pub no_kill : (checkpoint : Bool) (at : ℕ) (m : Machine) → IsCalm checkpoint [] m → (ticked_at m.abort_at m at).acts ≡ act.KillAll ∷ [] → ⊥
no_kill checkpoint at m calm kills = grind (arith, calm.no_crash, calm.not_immediate, kills)

-- ---- the end of a child that is no crash

-- a startup child that brought the data up to date, or gave up for a shutdown
pub startup_left : (checkpoint : Bool) (m : Machine) (pid : ℕ) (status : Status) (now : ℕ) → IsCalm checkpoint [] m → is_not_running m.startup ≡ false
    → is_exit_0 status || (is_exit_1 status && is_some m.shutdown) ≡ true
    → IsCalm checkpoint (startup_exited m (record { pid = pid; kind = kind.Startup; status = status; now = now })).acts (startup_exited m (record { pid = pid; kind = kind.Startup; status = status; now = now })).after
unfolding startup_exited crash_rule
startup_left checkpoint m pid status now calm there ends = record {
  no_crash = grind (arith, calm.no_crash, ends);
  not_immediate = grind (arith, calm.not_immediate, ends);
  asked = grind (arith, calm.asked, ends);
  closing = grind (arith, calm.closing, there, ends);
  starts = grind (arith, ends);
  writers = grind (arith, ends);
}

-- the checkpointer has made the last checkpoint
pub checkpoint_made : (checkpoint : Bool) (m : Machine) → IsCalm checkpoint [] m → is_shutdown m.state ≡ true → IsCalm checkpoint [] (record m { checkpointer = false; state = state.WaitDeadEnd })
checkpoint_made checkpoint m calm shuts = record {
  no_crash = calm.no_crash;
  not_immediate = calm.not_immediate;
  asked = grind (arith, calm.asked, shuts);
  closing = grind (arith, calm.closing, shuts);
  starts = refl;
  writers = refl;
}

-- another child has ended
pub left_calm : (k : Kind) (checkpoint : Bool) (m : Machine) → IsCalm checkpoint [] m → IsCalm checkpoint [] (less_one k m)
left_calm kind.DeadEnd checkpoint m calm = record {
  no_crash = calm.no_crash;
  not_immediate = calm.not_immediate;
  asked = calm.asked;
  closing = calm.closing;
  starts = refl;
  writers = refl;
}
left_calm _ checkpoint m calm = record {
  no_crash = calm.no_crash;
  not_immediate = calm.not_immediate;
  asked = calm.asked;
  closing = grind (arith, calm.closing);
  starts = refl;
  writers = refl;
}

pub begun_calm : (limits : Limits) → IsCalm false [] (begun limits)
begun_calm limits = record { no_crash = refl; not_immediate = refl; asked = refl; closing = refl; starts = refl; writers = refl }
