-- What the machine keeps on the way to a clean end.
use Rattle.std.{proofs.Common.{◌≡◌, ◌≢◌, ℕ, ◌<◌, Bool, true, false, not, ◌&&◌, ◌||◌, List, [], ◌∷◌, refl, sym, subst, arith}, specs.Prelude.{◌==◌, if◌then◌else◌, IsSomeAnd}}
use Rattle.pm_serve_crew.specs.{pm_exit.{declared.child.{Kind.Kind, Status.Status}, Ends.{is_exit_0, is_exit_1}}, pm_modes.{declared.Mode.Mode, Strength.{is_immediate, strengthen_of}}, pm_admit.{declared.PmState.PmState, Admission.{decide_of, is_startup}}, pm_supervisor.{declared.{Ending.Ending, Limits.Limits}, Children.{Child, child_of, count_of, is_checkpointer, is_dead_end, is_session, is_startup_child, is_writer}, Supervisor.Shared}, pm_state.{declared.{action.Action.Action, event.PmEvent.PmEvent, machine.Machine.Machine}, Exits.{crash_rule, less_one, startup_exited, unless_normal}, Restarts.Counts, Machine.{Exited, MayAccept, accepted_as, begun, started_as, step, view_of}, Promises.has_act, Requests.{asked_with, ticked_at}, TurnRules.{backends_gone, children_gone, dead_ends_gone, end_smart, is_not_running, restart_writer, start_recovery, stop_backends}, Journal.{Do, Fits, reported, row_of, settled}}}
use Rattle.pm_serve_crew.specs.pm_exit.declared.child.Kind.TheVariants as kind
use Rattle.pm_serve_crew.specs.pm_exit.declared.child.Class.TheVariants as class
use Rattle.pm_serve_crew.specs.pm_modes.declared.Mode.TheVariants as mode
use Rattle.pm_serve_crew.specs.pm_admit.declared.PmState.TheVariants as state
use Rattle.pm_serve_crew.specs.pm_supervisor.declared.Ending.TheVariants as ending
use Rattle.pm_serve_crew.specs.pm_state.declared.action.Action.TheVariants as act
use Rattle.pm_serve_crew.specs.pm_state.declared.event.PmEvent.TheVariants as entry
use Rattle.pm_store_remains.proofs.{pm_state.{ReplayLaws.{startup_there, there_counts, was_there}, ChildLaws.is_deserted}, pm_server.CalmLaws.is_late}
use Rattle.pm_serve_clean_end.specs.Seen.{Seen, nothing_seen, seen_after}

-- ---- what is due

abbrev pub is_reset_act : Action → Bool
is_reset_act act.Reset = true
is_reset_act _ = false

abbrev pub is_clean_act : Action → Bool
is_clean_act (act.End ending.Clean) = true
is_clean_act _ = false

-- a checkpointer or a writer is to be started
abbrev pub is_aide_start : Action → Bool
is_aide_start (act.Start kind.Checkpointer) = true
is_aide_start (act.Start kind.Writer) = true
is_aide_start _ = false

-- ---- who is there

-- no child but a startup child and those that refuse a connection
abbrev pub has_no_other : Machine → Bool
has_no_other m = (m.children == 0) && (not m.checkpointer && not m.writer)

abbrev pub has_nobody : Machine → Bool
has_nobody m = has_no_other m && (is_not_running m.startup && (m.dead_ends == 0))

abbrev pub is_begin : PmState → Bool
is_begin state.Init = true
is_begin _ = false

abbrev pub serves : PmState → Bool
serves state.Run = true
serves state.Shutdown = true
serves _ = false

abbrev pub has_started : Seen → Bool
has_started s = s.harm || (s.undone || s.redone)

-- No immediate shutdown was asked for. A crash is noted where there was harm; the startup child comes first, alone and once; and
-- the server ends clean only where there was no harm, with a checkpointer in the present generation, and with nobody left.
pub record IsInOrder (s : Seen) (acts : List Action) (m : Machine) : Type 0 where
  pub not_immediate : is_immediate m.shutdown ≡ false
  pub fatal : not s.harm || m.fatal ≡ true
  pub rests : not (has_started s) || (is_not_running m.startup || has_act is_reset_act acts) ≡ true
  pub once : not (s.undone && s.redone) ≡ true
  pub alone : is_not_running m.startup || has_no_other m ≡ true
  pub fresh : not (is_begin m.state) || not (has_started s) ≡ true
  pub deserted : not (is_deserted m.state) || has_nobody m ≡ true
  pub starts : not (has_act is_aide_start acts) || serves m.state ≡ true
  pub runs : not (serves m.state) || is_not_running m.startup ≡ true
  pub resets : not (has_act is_reset_act acts) || (is_startup m.state && not (is_not_running m.startup)) ≡ true
  pub checks : not m.checkpointer || s.checkpointer ≡ true
  pub late : not (is_late m.state) || (m.fatal || s.checkpointer) ≡ true
  pub over : not (s.clean || has_act is_clean_act acts) || ((m.ended && is_deserted m.state) && (not s.harm && (s.checkpointer && has_nobody m))) ≡ true

pub settled_so : (s : Seen) (acts : List Action) (m : Machine) → IsInOrder s acts m → IsInOrder s acts (settled m)
unfolding settled backends_gone dead_ends_gone
settled_so s acts m so = record {
  not_immediate = grind (arith, so.not_immediate);
  fatal = grind (arith, so.fatal);
  rests = grind (arith, so.rests);
  once = so.once;
  alone = grind (arith, so.alone);
  fresh = grind (arith, so.fresh);
  deserted = grind (arith, so.deserted);
  starts = grind (arith, so.starts);
  runs = grind (arith, so.runs);
  resets = grind (arith, so.resets);
  checks = grind (arith, so.checks);
  late = grind (arith, so.late, so.not_immediate);
  over = grind (arith, so.over);
}

pub row_so : (s : Seen) (m : Machine) → m.ended ≡ false → IsInOrder s [] m → IsInOrder s (row_of m).acts (row_of m).after
unfolding row_of start_recovery restart_writer end_smart stop_backends backends_gone dead_ends_gone children_gone
row_so s m on so = record {
  not_immediate = grind (arith, so.not_immediate);
  fatal = grind (arith, so.fatal);
  rests = grind (arith, so.rests, so.fresh);
  once = so.once;
  alone = grind (arith, so.alone, so.deserted);
  fresh = grind (arith, so.fresh);
  deserted = grind (arith, so.deserted);
  starts = grind arith;
  runs = grind (arith, so.runs);
  resets = grind arith;
  checks = grind (arith, so.checks);
  late = grind (arith, so.late, so.not_immediate);
  over = grind (arith, so.over, so.fatal, so.late, so.deserted, on);
}

pub accepted_so : (s : Seen) (m : Machine) → MayAccept m → IsInOrder s [] m → IsInOrder s [] (accepted_as (decide_of (view_of m)) m)
accepted_so s m may so = record {
  not_immediate = grind (arith, so.not_immediate);
  fatal = grind (arith, so.fatal);
  rests = grind (arith, so.rests);
  once = so.once;
  alone = grind (arith, so.alone, so.runs);
  fresh = grind (arith, so.fresh);
  deserted = grind (arith, so.deserted, may.1);
  starts = refl;
  runs = grind (arith, so.runs);
  resets = refl;
  checks = grind (arith, so.checks);
  late = grind (arith, so.late);
  over = grind (arith, so.over, may.0);
}

pub asked_so : (s : Seen) (given : Mode) (at : ℕ) (m : Machine) → given ≢ mode.Immediate → m.ended ≡ false → IsInOrder s [] m
    → IsInOrder s (asked_with (strengthen_of m.shutdown given) m at).acts (asked_with (strengthen_of m.shutdown given) m at).after
asked_so s mode.Immediate at m other on so = absurd (other refl)
asked_so s given at m other on so = record {
  not_immediate = grind (arith, so.not_immediate);
  fatal = grind (arith, so.fatal);
  rests = grind (arith, so.rests);
  once = so.once;
  alone = grind (arith, so.alone);
  fresh = grind (arith, so.fresh);
  deserted = grind (arith, so.deserted);
  starts = grind arith;
  runs = grind (arith, so.runs);
  resets = grind arith;
  checks = grind (arith, so.checks);
  late = grind (arith, so.late);
  over = grind (arith, so.over, on);
}

pub ticked_so : (s : Seen) (at : ℕ) (m : Machine) → m.ended ≡ false → IsInOrder s [] m → IsInOrder s [] (ticked_at m.abort_at m at).after
ticked_so s at m on so = record {
  not_immediate = grind (arith, so.not_immediate);
  fatal = grind (arith, so.fatal);
  rests = grind (arith, so.rests);
  once = so.once;
  alone = grind (arith, so.alone);
  fresh = grind (arith, so.fresh);
  deserted = grind (arith, so.deserted);
  starts = refl;
  runs = grind (arith, so.runs);
  resets = refl;
  checks = grind (arith, so.checks);
  late = grind (arith, so.late);
  over = grind (arith, so.over, on);
}

-- ---- an act is done

less_so : (s : Seen) (a : Action) (acts : List Action) (m : Machine) → is_reset_act a ≡ false → IsInOrder s (a ∷ acts) m → IsInOrder s acts m
less_so s a acts m other so = record {
  not_immediate = so.not_immediate;
  fatal = so.fatal;
  rests = grind (arith, so.rests, other);
  once = so.once;
  alone = so.alone;
  fresh = so.fresh;
  deserted = so.deserted;
  starts = grind (arith, so.starts);
  runs = so.runs;
  resets = grind (arith, so.resets);
  checks = so.checks;
  late = so.late;
  over = grind (arith, so.over);
}

reset_so : (s : Seen) (generation : ℕ) (acts : List Action) (m : Machine) → IsInOrder s (act.Reset ∷ acts) m → IsInOrder (seen_after s (entry.Reset generation)) acts m
reset_so s generation acts m so = record {
  not_immediate = so.not_immediate;
  fatal = refl;
  rests = refl;
  once = refl;
  alone = so.alone;
  fresh = grind arith;
  deserted = so.deserted;
  starts = so.starts;
  runs = so.runs;
  resets = grind (arith, so.resets);
  checks = grind (arith, so.alone, so.resets);
  late = grind (arith, so.resets);
  over = grind (arith, so.over, so.resets);
}

started_so : (k : Kind) (s : Seen) (pid : ℕ) (acts : List Action) (m : Machine) → IsInOrder s (act.Start k ∷ acts) m → IsInOrder (seen_after s (entry.Started pid k)) acts (started_as k m)
started_so kind.Startup s pid acts m so = record {
  not_immediate = so.not_immediate;
  fatal = so.fatal;
  rests = so.rests;
  once = so.once;
  alone = so.alone;
  fresh = so.fresh;
  deserted = so.deserted;
  starts = so.starts;
  runs = so.runs;
  resets = so.resets;
  checks = so.checks;
  late = so.late;
  over = so.over;
}
started_so kind.Worker s pid acts m so = less_so s (act.Start kind.Worker) acts m refl so
started_so kind.Backend s pid acts m so = less_so s (act.Start kind.Backend) acts m refl so
started_so kind.DeadEnd s pid acts m so = less_so s (act.Start kind.DeadEnd) acts m refl so
started_so k s pid acts m so = record {
  not_immediate = so.not_immediate;
  fatal = so.fatal;
  rests = so.rests;
  once = so.once;
  alone = grind (arith, so.starts, so.runs);
  fresh = so.fresh;
  deserted = grind (arith, so.starts);
  starts = grind (arith, so.starts);
  runs = so.runs;
  resets = so.resets;
  checks = grind (arith, so.checks);
  late = grind (arith, so.late);
  over = grind (arith, so.over, so.starts, so.runs);
}

ended_so : (how : Ending) (s : Seen) (acts : List Action) (m : Machine) → IsInOrder s (act.End how ∷ acts) m → IsInOrder (seen_after s (entry.Ended how)) acts m
ended_so ending.Clean s acts m so = record {
  not_immediate = so.not_immediate;
  fatal = so.fatal;
  rests = so.rests;
  once = so.once;
  alone = so.alone;
  fresh = so.fresh;
  deserted = so.deserted;
  starts = so.starts;
  runs = so.runs;
  resets = so.resets;
  checks = so.checks;
  late = so.late;
  over = grind (arith, so.over);
}
ended_so ending.AfterCrash s acts m so = less_so s (act.End ending.AfterCrash) acts m refl so
ended_so ending.StartupFailed s acts m so = less_so s (act.End ending.StartupFailed) acts m refl so
ended_so ending.RestartOff s acts m so = less_so s (act.End ending.RestartOff) acts m refl so

pub act_so : (s : Seen) (shown : Shared) (a : Action) (acts : List Action) (e : PmEvent) (m : Machine) → Fits shown (Do a) e → IsInOrder s (a ∷ acts) m
    → IsInOrder (seen_after s e) acts (reported e m)
act_so s shown (act.Start k) acts (entry.Started pid given) m fits so =
    subst (λ (x : Kind). IsInOrder (seen_after s (entry.Started pid x)) acts (started_as x m)) (sym fits.1) (started_so k s pid acts m so)
act_so s shown (act.Quit why) acts (entry.QuitSent reason) m fits so = less_so s (act.Quit why) acts m refl so
act_so s shown act.Terminate acts entry.TerminateSent m fits so = less_so s act.Terminate acts m refl so
act_so s shown act.AskCheckpoint acts entry.CheckpointAsked m fits so = less_so s act.AskCheckpoint acts m refl so
act_so s shown act.Ready acts (entry.Ready generation) m fits so = less_so s act.Ready acts m refl so
act_so s shown act.Reset acts (entry.Reset generation) m fits so = reset_so s generation acts m so
act_so s shown (act.Say line) acts (entry.Said written) m fits so = less_so s (act.Say line) acts m refl so
act_so s shown (act.End how) acts (entry.Ended given) m fits so =
    subst (λ (x : Ending). IsInOrder (seen_after s (entry.Ended x)) acts m) (sym fits) (ended_so how s acts m so)
act_so s shown a acts e m fits so = absurd fits

-- ---- the end of a child

startup_so : (s : Seen) (m : Machine) (pid : ℕ) (status : Status) (now : ℕ) (was_active : Bool) → m.ended ≡ false → is_not_running m.startup ≡ false → IsInOrder s [] m
    → IsInOrder (seen_after s (entry.Exited pid kind.Startup status was_active now))
    (startup_exited m (record { pid = pid; kind = kind.Startup; status = status; now = now })).acts
    (startup_exited m (record { pid = pid; kind = kind.Startup; status = status; now = now })).after
unfolding startup_exited crash_rule
startup_so s m pid status now was_active on there so = record {
  not_immediate = grind (arith, so.not_immediate);
  fatal = grind (arith, so.fatal, so.rests, there);
  rests = grind arith;
  once = grind (arith, so.rests, there);
  alone = grind arith;
  fresh = grind (arith, so.deserted, there);
  deserted = grind (arith, so.deserted, there);
  starts = grind arith;
  runs = grind arith;
  resets = grind arith;
  checks = grind (arith, so.checks, so.alone, there);
  late = grind (arith, so.late, so.not_immediate);
  over = grind (arith, so.over, on);
}

abbrev Behind : Seen → Kind → Machine → ℕ → Status → ℕ → Bool → Type 0
Behind s k m pid status now was_active =
    IsInOrder (seen_after s (entry.Exited pid k status was_active now)) (step m (Exited pid k status was_active now)).acts (step m (Exited pid k status was_active now)).after

checkpointer_so : (s : Seen) (m : Machine) (pid : ℕ) (status : Status) (now : ℕ) (was_active : Bool) → m.ended ≡ false → m.checkpointer ≡ true → IsInOrder s [] m
    → Behind s kind.Checkpointer m pid status now was_active
unfolding crash_rule
checkpointer_so s m pid status now was_active on there so = record {
  not_immediate = grind (arith, so.not_immediate);
  fatal = grind (arith, so.fatal, so.not_immediate);
  rests = grind (arith, so.alone, there);
  once = so.once;
  alone = grind (arith, so.alone);
  fresh = grind (arith, so.deserted, there);
  deserted = grind (arith, so.deserted, there);
  starts = grind arith;
  runs = grind (arith, so.runs);
  resets = grind arith;
  checks = grind (arith, so.checks);
  late = grind (arith, so.late, so.checks, there);
  over = grind (arith, so.over, on);
}

writer_so : (s : Seen) (m : Machine) (pid : ℕ) (status : Status) (now : ℕ) (was_active : Bool) → m.ended ≡ false → m.writer ≡ true → IsInOrder s [] m
    → Behind s kind.Writer m pid status now was_active
unfolding crash_rule
writer_so s m pid status now was_active on there so = record {
  not_immediate = grind (arith, so.not_immediate);
  fatal = grind (arith, so.fatal, so.not_immediate);
  rests = grind (arith, so.alone, there);
  once = so.once;
  alone = grind (arith, so.alone);
  fresh = grind (arith, so.deserted, there);
  deserted = grind (arith, so.deserted, there);
  starts = grind arith;
  runs = grind (arith, so.runs);
  resets = grind arith;
  checks = grind (arith, so.checks);
  late = grind (arith, so.late);
  over = grind (arith, so.over, on);
}

-- one of the sessions is there no more, or a child that refused a connection
less_child_so : (s : Seen) (m : Machine) → 0 < m.children → IsInOrder s [] m → IsInOrder s [] (less_one kind.Backend m)
less_child_so s m there so = record {
  not_immediate = so.not_immediate;
  fatal = so.fatal;
  rests = so.rests;
  once = so.once;
  alone = grind (arith, so.alone);
  fresh = so.fresh;
  deserted = grind (arith, so.deserted, there);
  starts = so.starts;
  runs = so.runs;
  resets = so.resets;
  checks = so.checks;
  late = so.late;
  over = grind (arith, so.over);
}

less_dead_end_so : (s : Seen) (m : Machine) → 0 < m.dead_ends → IsInOrder s [] m → IsInOrder s [] (less_one kind.DeadEnd m)
less_dead_end_so s m there so = record {
  not_immediate = so.not_immediate;
  fatal = so.fatal;
  rests = so.rests;
  once = so.once;
  alone = so.alone;
  fresh = so.fresh;
  deserted = grind (arith, so.deserted, there);
  starts = so.starts;
  runs = so.runs;
  resets = so.resets;
  checks = so.checks;
  late = so.late;
  over = grind (arith, so.over);
}

abbrev with_harm : Bool → Seen → Seen
with_harm harm s = record s { harm = harm || s.harm }

-- a crash of a child that isn't the startup child; where there was harm, that isn't there
crash_so : (harm : Bool) (s : Seen) (m : Machine) (exit : _) → m.ended ≡ false → not harm || (is_not_running m.startup && not (is_begin m.state)) ≡ true → IsInOrder s [] m
    → IsInOrder (with_harm harm s) (crash_rule m exit).acts (crash_rule m exit).after
unfolding crash_rule
crash_so harm s m exit on apart so = record {
  not_immediate = so.not_immediate;
  fatal = grind (arith, so.not_immediate);
  rests = grind (arith, so.rests, apart);
  once = so.once;
  alone = grind (arith, so.alone);
  fresh = grind (arith, so.fresh, apart);
  deserted = grind (arith, so.deserted);
  starts = grind arith;
  runs = grind (arith, so.runs);
  resets = grind arith;
  checks = so.checks;
  late = grind (arith, so.late);
  over = grind (arith, so.over, on);
}

-- by whether it ended by itself, and whether its slot was active
child_so : (well was_active : Bool) (s : Seen) (m : Machine) (exit : _) → m.ended ≡ false → (is_not_running m.startup && not (is_begin m.state)) ≡ true → IsInOrder s [] m
    → IsInOrder (with_harm (not well) s) (unless_normal (if well && not was_active then class.Normal else class.Crash) m exit).acts
    (unless_normal (if well && not was_active then class.Normal else class.Crash) m exit).after
child_so true true s m exit on apart so = crash_so false s m exit on refl so
child_so true false s m exit on apart so = so
child_so false true s m exit on apart so = crash_so true s m exit on apart so
child_so false false s m exit on apart so = crash_so true s m exit on apart so

refused_so : (normal : Bool) (s : Seen) (m : Machine) (exit : _) → m.ended ≡ false → IsInOrder s [] m
    → IsInOrder s (unless_normal (if normal then class.Normal else class.Crash) m exit).acts (unless_normal (if normal then class.Normal else class.Crash) m exit).after
refused_so true s m exit on so = so
refused_so false s m exit on so = crash_so false s m exit on refl so

served_apart : (s : Seen) (m : Machine) → 0 < m.children → IsInOrder s [] m → (is_not_running m.startup && not (is_begin m.state)) ≡ true
served_apart s m there so = grind (arith, so.alone, so.deserted, there)

backend_so : (s : Seen) (m : Machine) (pid : ℕ) (status : Status) (now : ℕ) (was_active : Bool) → m.ended ≡ false → 0 < m.children → IsInOrder s [] m
    → Behind s kind.Backend m pid status now was_active
backend_so s m pid status now was_active on there so =
    child_so (is_exit_0 status || is_exit_1 status) was_active s (less_one kind.Backend m) (record { pid = pid; kind = kind.Backend; status = status; now = now }) on
    (served_apart s m there so) (less_child_so s m there so)

worker_so : (s : Seen) (m : Machine) (pid : ℕ) (status : Status) (now : ℕ) (was_active : Bool) → m.ended ≡ false → 0 < m.children → IsInOrder s [] m
    → Behind s kind.Worker m pid status now was_active
worker_so s m pid status now was_active on there so =
    child_so (is_exit_0 status || is_exit_1 status) was_active s (less_one kind.Worker m) (record { pid = pid; kind = kind.Worker; status = status; now = now }) on
    (served_apart s m there so) (less_child_so s m there so)

dead_end_so : (s : Seen) (m : Machine) (pid : ℕ) (status : Status) (now : ℕ) (was_active : Bool) → m.ended ≡ false → 0 < m.dead_ends → IsInOrder s [] m
    → Behind s kind.DeadEnd m pid status now was_active
dead_end_so s m pid status now was_active on there so =
    refused_so ((is_exit_0 status || is_exit_1 status) && not was_active) s (less_one kind.DeadEnd m) (record { pid = pid; kind = kind.DeadEnd; status = status; now = now }) on
    (less_dead_end_so s m there so)

-- a child that is there ends
pub exited_so : (k : Kind) (s : Seen) (m : Machine) (cs : List Child) (pid : ℕ) (status : Status) (now : ℕ) (was_active : Bool) → m.ended ≡ false → Counts m cs
    → IsSomeAnd (child_of pid cs) (λ c. c.kind ≡ k) → IsInOrder s [] m → Behind s k m pid status now was_active
exited_so kind.Startup s m cs pid status now was_active on counts there so =
    startup_so s m pid status now was_active on
    (startup_there (count_of is_startup_child cs) (is_not_running m.startup) m.startup_due (there_counts is_startup_child pid kind.Startup cs there refl) counts.startup) so
exited_so kind.Checkpointer s m cs pid status now was_active on counts there so =
    checkpointer_so s m pid status now was_active on
    (was_there (count_of is_checkpointer cs) m.checkpointer (there_counts is_checkpointer pid kind.Checkpointer cs there refl) counts.checkpointer) so
exited_so kind.Writer s m cs pid status now was_active on counts there so =
    writer_so s m pid status now was_active on
    (was_there (count_of is_writer cs) m.writer (there_counts is_writer pid kind.Writer cs there refl) counts.writer) so
exited_so kind.Worker s m cs pid status now was_active on counts there so =
    worker_so s m pid status now was_active on (omega (arith, there_counts is_session pid kind.Worker cs there refl, counts.sessions)) so
exited_so kind.Backend s m cs pid status now was_active on counts there so =
    backend_so s m pid status now was_active on (omega (arith, there_counts is_session pid kind.Backend cs there refl, counts.sessions)) so
exited_so kind.DeadEnd s m cs pid status now was_active on counts there so =
    dead_end_so s m pid status now was_active on (omega (arith, there_counts is_dead_end pid kind.DeadEnd cs there refl, counts.dead_ends)) so

pub begun_so : (limits : Limits) → IsInOrder nothing_seen [] (begun limits)
begun_so limits = record {
  not_immediate = refl;
  fatal = refl;
  rests = refl;
  once = refl;
  alone = refl;
  fresh = refl;
  deserted = refl;
  starts = refl;
  runs = refl;
  resets = refl;
  checks = refl;
  late = refl;
  over = refl;
}
