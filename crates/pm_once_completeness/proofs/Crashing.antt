-- Where children end by themselves none crashes, but for a checkpointer without its last checkpoint.
use Rattle.std.{proofs.Common.{◌≡◌, ℕ, Bool, true, false, not, ◌&&◌, ◌||◌, List, [], ◌∷◌, refl, sym, ap, subst, arith}, specs.Prelude.is_some}
use Rattle.pm_once.specs.{pm_state.{pm_exit.{declared.child.{Kind.Kind, Status.Status}, Ends.{is_exit_0, is_exit_1}}, pm_modes.{declared.Mode.TheVariants.Smart, Strength.strengthen_of}, pm_admit.Admission.{decide_of, is_startup}, pm_supervisor.Supervisor.Shared, declared.{action.Action.Action, event.PmEvent.PmEvent, machine.Machine.Machine}, Exits.{crash_rule, is_shutdown, less_one, startup_exited}, Known.{is_signalled, is_waiting}, Machine.{Exited, accepted_as, started_as, step, view_of}, Promises.{has_act, is_ask_checkpoint, is_quit}, Requests.{asked_with, ticked_at}, TurnRules.{are_backends_gone, backends_gone, children_gone, dead_ends_gone, end_smart, is_not_running, restart_writer, start_recovery, stop_backends}, Journal.{Do, Fits, reported, row_of, settled}}, pm_once_children.AuxiliaryRuns.{Heard, heard_after}}
use Rattle.pm_once.specs.pm_state.pm_exit.declared.child.Kind.TheVariants as kind
use Rattle.pm_once.specs.pm_state.pm_supervisor.declared.Ending.TheVariants as ending
use Rattle.pm_once.specs.pm_state.declared.action.Action.TheVariants as act
use Rattle.pm_once.specs.pm_state.declared.event.PmEvent.TheVariants as entry
use Rattle.pm_once.proofs.pm_server.CalmLaws as machine
use Rattle.pm_once_completeness.{specs.Crashes.{IsBehindUndone, IsOrderly}, proofs.Replaying.KeepsPlain}

-- ---- nobody has crashed

-- no crash was noticed, and none is among what is due
pub record IsCalmSo (h : Heard) (acts : List Action) (m : Machine) : Type 0 where
  pub calm : machine.IsCalm h.asked acts m
  pub unquit : h.quit ≡ false
  pub not_told : is_signalled m.startup ≡ false
  pub starting : is_not_running m.startup || (is_some m.shutdown || is_startup m.state) ≡ true
  pub no_quit : has_act is_quit acts ≡ false

settled_calm : (h : Heard) (acts : List Action) (m : Machine) → IsCalmSo h acts m → IsCalmSo h acts (settled m)
settled_calm h acts m its =
    machine.settled_so (IsCalmSo h acts) h.asked acts m its.calm its (λ gone. record {
      calm = machine.gone_calm h.asked acts m its.calm gone;
      unquit = its.unquit;
      not_told = its.not_told;
      starting = grind (arith, its.starting, gone);
      no_quit = its.no_quit;
    })

-- ---- an act is done

-- what is due gets less, and the machine is the same
less_calm : (h : Heard) (a : Action) (acts : List Action) (m : Machine) → IsCalmSo h (a ∷ acts) m → IsCalmSo h acts m
less_calm h a acts m its = record {
  calm = machine.less_calm h.asked a acts m its.calm;
  unquit = its.unquit;
  not_told = its.not_told;
  starting = its.starting;
  no_quit = grind (arith, its.no_quit);
}

started_calm : (k : Kind) (h : Heard) (pid : ℕ) (acts : List Action) (m : Machine) → IsCalmSo h (act.Start k ∷ acts) m → IsCalmSo (heard_after h (entry.Started pid k)) acts (started_as k m)
started_calm kind.Startup h pid acts m its = record {
  calm = machine.unasked_calm h.asked acts (started_as kind.Startup m) (machine.started_calm kind.Startup h.asked acts m its.calm);
  unquit = refl;
  not_told = its.not_told;
  starting = its.starting;
  no_quit = its.no_quit;
}
started_calm k h pid acts m its = record {
  calm = machine.started_calm k h.asked acts m its.calm;
  unquit = its.unquit;
  not_told = its.not_told;
  starting = its.starting;
  no_quit = its.no_quit;
}

-- so is an entry of the journal in whatever state
abbrev pub IsAlwaysOrderly : PmEvent → Type 0
IsAlwaysOrderly e = (m : Machine) → IsOrderly m e

act_calm : (h : Heard) (s : Shared) (a : Action) (acts : List Action) (e : PmEvent) (m : Machine) → Fits s (Do a) e → IsCalmSo h (a ∷ acts) m
    → IsAlwaysOrderly e × IsCalmSo (heard_after h e) acts (reported e m)
act_calm h s (act.Start k) acts (entry.Started pid given) m fits its =
    (λ any. tt, subst (λ (x : Kind). IsCalmSo (heard_after h (entry.Started pid x)) acts (started_as x m)) (sym fits.1) (started_calm k h pid acts m its))
act_calm h s (act.Quit why) acts (entry.QuitSent reason) m fits its = absurd (let quit : true ≡ false = its.no_quit in cc)
act_calm h s act.Terminate acts entry.TerminateSent m fits its = (
  λ any. tt,
  record {
    calm = machine.less_calm h.asked act.Terminate acts m its.calm;
    unquit = its.unquit;
    not_told = its.not_told;
    starting = its.starting;
    no_quit = its.no_quit;
  },
)
act_calm h s act.AskCheckpoint acts entry.CheckpointAsked m fits its = (
  λ any. tt,
  record {
    calm = machine.checkpoint_asked h.asked acts m its.calm;
    unquit = its.unquit;
    not_told = its.not_told;
    starting = its.starting;
    no_quit = its.no_quit;
  },
)
act_calm h s act.Ready acts (entry.Ready generation) m fits its = (λ any. tt, less_calm h act.Ready acts m its)
act_calm h s act.Reset acts (entry.Reset generation) m fits its = (λ any. tt, less_calm h act.Reset acts m its)
act_calm h s (act.Say line) acts (entry.Said written) m fits its = (λ any. tt, less_calm h (act.Say line) acts m its)
act_calm h s (act.End how) acts (entry.Ended given) m fits its = (λ any. tt, less_calm h (act.End how) acts m its)
act_calm h s a acts e m fits its = absurd fits

-- ---- what happens

row_calm : (h : Heard) (m : Machine) → IsCalmSo h [] m → IsCalmSo h (row_of m).acts (row_of m).after
unfolding row_of start_recovery restart_writer end_smart stop_backends backends_gone dead_ends_gone children_gone
row_calm h m its = record {
  calm = machine.row_calm h.asked m its.calm;
  unquit = its.unquit;
  not_told = grind (arith, its.not_told);
  starting = grind (arith, its.starting);
  no_quit = grind arith;
}

accepted_calm : (h : Heard) (m : Machine) → IsCalmSo h [] m → IsCalmSo h [] (accepted_as (decide_of (view_of m)) m)
accepted_calm h m its = record {
  calm = machine.accepted_calm h.asked m its.calm;
  unquit = its.unquit;
  not_told = grind (arith, its.not_told);
  starting = grind (arith, its.starting);
  no_quit = refl;
}

asked_calm : (h : Heard) (at : ℕ) (m : Machine) → IsCalmSo h [] m
    → IsCalmSo h (asked_with (strengthen_of m.shutdown Smart) m at).acts (asked_with (strengthen_of m.shutdown Smart) m at).after
asked_calm h at m its = record {
  calm = machine.smart_calm h.asked at m its.calm;
  unquit = its.unquit;
  not_told = grind (arith, its.not_told);
  starting = grind (arith, its.starting);
  no_quit = grind arith;
}

pub keeps_calm : KeepsPlain IsCalmSo IsAlwaysOrderly
keeps_calm = record {
  due = record { acted = act_calm; redo = λ h generation kept acts m calm. (λ any. tt, calm); row = λ h m on calm. row_calm h m calm; settled = settled_calm };
  accepted = λ h pid decision m on calm. (λ any. tt, accepted_calm h m calm);
  asked = λ h at m on calm. (λ any. tt, asked_calm h at m calm);
  kill = λ h pid any. tt;
  ticked = λ h at m on kills calm. absurd (machine.no_kill h.asked at m calm.calm kills);
}

-- ---- the end of a child

-- it is orderly, and no crash is noticed
pub record EndsCalm (h : Heard) (k : Kind) (m : Machine) (pid : ℕ) (status : Status) (now : ℕ) (was_active : Bool) : Type 0 where
  pub orderly : IsOrderly m (entry.Exited pid k status was_active now)
  pub calm : IsCalmSo h (step m (Exited pid k status was_active now)).acts (step m (Exited pid k status was_active now)).after

-- a startup child that ended its redo, or gave up for a shutdown
startup_left : (h : Heard) (m : Machine) (pid : ℕ) (status : Status) (now : ℕ) → IsCalmSo h [] m → is_not_running m.startup ≡ false → is_exit_0 status || (is_exit_1 status && is_some m.shutdown) ≡ true
    → IsCalmSo h (startup_exited m (record { pid = pid; kind = kind.Startup; status = status; now = now })).acts (startup_exited m (record { pid = pid; kind = kind.Startup; status = status; now = now })).after
unfolding startup_exited crash_rule
startup_left h m pid status now its there ends = record {
  calm = machine.startup_left h.asked m pid status now its.calm there ends;
  unquit = its.unquit;
  not_told = grind (arith, its.not_told, ends);
  starting = grind arith;
  no_quit = grind (arith, ends);
}

startup_orderly : (m : Machine) (pid : ℕ) (status : Status) (now : ℕ) (was_active : Bool) → is_exit_0 status || is_exit_1 status ≡ true → is_exit_0 status || is_some m.shutdown ≡ true → IsOrderly m (entry.Exited pid kind.Startup status was_active now)
startup_orderly m pid status now was_active ends done = grind (arith, ends, done)

gave_up : (zero one asked : Bool) → zero || one ≡ true → zero || asked ≡ true → zero || (one && asked) ≡ true
gave_up true one asked ends done = refl
gave_up false true asked ends done = done
gave_up false false asked ends done = ends

pub startup_calm : (h : Heard) (m : Machine) (pid : ℕ) (status : Status) (now : ℕ) (was_active : Bool) → IsCalmSo h [] m → is_not_running m.startup ≡ false → is_exit_0 status || is_exit_1 status ≡ true
    → is_exit_0 status || is_some m.shutdown ≡ true → EndsCalm h kind.Startup m pid status now was_active
startup_calm h m pid status now was_active its there ends done = record {
  orderly = startup_orderly m pid status now was_active ends done;
  calm = startup_left h m pid status now its there (gave_up (is_exit_0 status) (is_exit_1 status) (is_some m.shutdown) ends done);
}

-- the checkpointer has made the last checkpoint
closing_shuts : (h : Heard) (m : Machine) → IsCalmSo h [] m → h.asked ≡ true → m.checkpointer ≡ true → is_shutdown m.state ≡ true
closing_shuts h m its asked there = machine.shuts m (subst (λ (b : Bool). not (b || has_act is_ask_checkpoint []) || machine.is_closing m ≡ true) asked its.calm.closing) there

pub checkpointer_calm : (h : Heard) (m : Machine) (pid : ℕ) (status : Status) (now : ℕ) (was_active : Bool) → IsCalmSo h [] m → h.asked ≡ true → m.checkpointer ≡ true → is_exit_0 status ≡ true
    → EndsCalm h kind.Checkpointer m pid status now was_active
checkpointer_calm h m pid status now was_active its asked there ends =
    let shuts = closing_shuts h m its asked there in
    record {
      orderly = rw (shuts, ends) refl;
      calm = rw (shuts, ends) (record {
        calm = machine.checkpoint_made h.asked m its.calm shuts;
        unquit = its.unquit;
        not_told = its.not_told;
        starting = grind (arith, its.calm.closing, asked);
        no_quit = refl;
      });
    }

-- another child is there no more
less_one_calm : (k : Kind) (h : Heard) (m : Machine) → IsCalmSo h [] m → IsCalmSo h [] (less_one k m)
less_one_calm kind.Startup h m its = record { calm = machine.left_calm kind.Startup h.asked m its.calm; unquit = its.unquit; not_told = refl; starting = refl; no_quit = refl }
less_one_calm k h m its = record { calm = machine.left_calm k h.asked m its.calm; unquit = its.unquit; not_told = its.not_told; starting = its.starting; no_quit = refl }

-- the writer and a session
pub writer_calm : (h : Heard) (m : Machine) (pid : ℕ) (status : Status) (now : ℕ) (was_active : Bool) → IsCalmSo h [] m → is_exit_0 status ≡ true → EndsCalm h kind.Writer m pid status now was_active
writer_calm h m pid status now was_active its ends = record { orderly = rw ends refl; calm = rw ends (less_one_calm kind.Writer h m its) }

pub session_calm : (h : Heard) (m : Machine) (pid : ℕ) (status : Status) (now : ℕ) (was_active : Bool) → IsCalmSo h [] m → ((is_exit_0 status || is_exit_1 status) && not was_active) ≡ true → EndsCalm h kind.Backend m pid status now was_active
session_calm h m pid status now was_active its ends = record { orderly = rw ends refl; calm = rw ends (less_one_calm kind.Backend h m its) }

-- ---- after a child that left its work undone

-- the server goes on by this act, or ends clean
abbrev is_more : Action → Bool
is_more (act.Start k) = true
is_more act.Reset = true
is_more (act.End ending.Clean) = true
is_more _ = false

-- it waits, and no child is left but those that refuse a connection
abbrev is_deserted : Machine → Bool
is_deserted m = is_waiting m.state && (are_backends_gone m && not m.checkpointer)

-- the server has ended, or a crash was noticed while it shuts down, of the last child
pub record IsLost (h : Heard) (acts : List Action) (m : Machine) : Type 0 where
  pub lost : m.ended || (m.fatal && (is_some m.shutdown && is_deserted m)) ≡ true
  pub over : has_act is_more acts ≡ false

settled_lost : (h : Heard) (acts : List Action) (m : Machine) → IsLost h acts m → IsLost h acts (settled m)
unfolding settled backends_gone dead_ends_gone
settled_lost h acts m lost = record { lost = grind (arith, lost.lost); over = lost.over }

less_lost : (h next : Heard) (a : Action) (acts : List Action) (m : Machine) → IsLost h (a ∷ acts) m → IsLost next acts m
less_lost h next a acts m lost = record { lost = lost.lost; over = grind (arith, lost.over) }

act_lost : (h : Heard) (s : Shared) (a : Action) (acts : List Action) (e : PmEvent) (m : Machine) → Fits s (Do a) e → IsLost h (a ∷ acts) m
    → IsBehindUndone e × IsLost (heard_after h e) acts (reported e m)
act_lost h s (act.Start k) acts (entry.Started pid given) m fits lost = absurd (let more : true ≡ false = lost.over in cc)
act_lost h s (act.Quit why) acts (entry.QuitSent reason) m fits lost = (tt, less_lost h _ (act.Quit why) acts m lost)
act_lost h s act.Terminate acts entry.TerminateSent m fits lost = (tt, less_lost h _ act.Terminate acts m lost)
act_lost h s act.AskCheckpoint acts entry.CheckpointAsked m fits lost = (tt, less_lost h _ act.AskCheckpoint acts m lost)
act_lost h s act.Ready acts (entry.Ready generation) m fits lost = (tt, less_lost h _ act.Ready acts m lost)
act_lost h s act.Reset acts (entry.Reset generation) m fits lost = absurd (let more : true ≡ false = lost.over in cc)
act_lost h s (act.Say line) acts (entry.Said written) m fits lost = (tt, less_lost h _ (act.Say line) acts m lost)
act_lost h s (act.End ending.Clean) acts (entry.Ended given) m fits lost = absurd (let more : true ≡ false = lost.over in cc)
act_lost h s (act.End ending.AfterCrash) acts (entry.Ended given) m fits lost = (subst IsBehindUndone (ap entry.Ended (sym fits)) tt, less_lost h h (act.End ending.AfterCrash) acts m lost)
act_lost h s (act.End ending.StartupFailed) acts (entry.Ended given) m fits lost = (subst IsBehindUndone (ap entry.Ended (sym fits)) tt, less_lost h h (act.End ending.StartupFailed) acts m lost)
act_lost h s (act.End ending.RestartOff) acts (entry.Ended given) m fits lost = (subst IsBehindUndone (ap entry.Ended (sym fits)) tt, less_lost h h (act.End ending.RestartOff) acts m lost)
act_lost h s a acts e m fits lost = absurd fits

row_lost : (h : Heard) (m : Machine) → m.ended ≡ false → IsLost h [] m → IsLost h (row_of m).acts (row_of m).after
unfolding row_of start_recovery restart_writer end_smart stop_backends backends_gone dead_ends_gone children_gone
row_lost h m on lost = record { lost = grind (arith, lost.lost, on); over = grind (arith, lost.lost, on) }

accepted_lost : (h : Heard) (m : Machine) → m.ended ≡ false → IsLost h [] m → IsLost h [] (accepted_as (decide_of (view_of m)) m)
accepted_lost h m on lost = record { lost = grind (arith, lost.lost, on); over = refl }

asked_lost : (h : Heard) (at : ℕ) (m : Machine) → IsLost h [] m
    → IsLost h (asked_with (strengthen_of m.shutdown Smart) m at).acts (asked_with (strengthen_of m.shutdown Smart) m at).after
asked_lost h at m lost = record { lost = grind (arith, lost.lost); over = grind arith }

ticked_lost : (h : Heard) (at : ℕ) (m : Machine) → IsLost h [] m → IsLost h [] (ticked_at m.abort_at m at).after
ticked_lost h at m lost = record { lost = grind (arith, lost.lost); over = refl }

pub keeps_lost : KeepsPlain IsLost IsBehindUndone
keeps_lost = record {
  due = record { acted = act_lost; redo = λ h generation kept acts m lost. (tt, lost); row = row_lost; settled = settled_lost };
  accepted = λ h pid decision m on lost. (tt, accepted_lost h m on lost);
  asked = λ h at m on lost. (tt, asked_lost h at m lost);
  kill = λ h pid. tt;
  ticked = λ h at m on kills lost. (tt, ticked_lost h at m lost);
}

-- the child is none that was left
pub nobody_left : (h : Heard) (m : Machine) → m.ended ≡ false → IsLost h [] m
    → (m.children ≡ 0) × (is_not_running m.startup ≡ true) × (m.checkpointer ≡ false) × (m.writer ≡ false)
nobody_left h m on lost = (grind (arith, lost.lost, on), grind (arith, lost.lost, on), grind (arith, lost.lost, on), grind (arith, lost.lost, on))

-- the checkpointer has ended without the last checkpoint
not_done : (status : Status) → is_exit_1 status ≡ true → is_exit_0 status ≡ false
not_done status one = grind arith

crash_lost : (h : Heard) (m : Machine) (exit : _) → IsCalmSo h [] m → h.asked ≡ true → m.checkpointer ≡ true
    → IsLost h (crash_rule (less_one kind.Checkpointer m) exit).acts (crash_rule (less_one kind.Checkpointer m) exit).after
unfolding crash_rule
crash_lost h m exit calm asked there = record { lost = grind (arith, calm.calm.closing, calm.calm.not_immediate, asked, there); over = grind arith }

pub checkpointer_lost : (h : Heard) (m : Machine) (pid : ℕ) (status : Status) (now : ℕ) (was_active : Bool) → IsCalmSo h [] m → h.asked ≡ true → m.checkpointer ≡ true → is_exit_1 status ≡ true
    → IsLost h (step m (Exited pid kind.Checkpointer status was_active now)).acts (step m (Exited pid kind.Checkpointer status was_active now)).after
checkpointer_lost h m pid status now was_active calm asked there one =
    rw (not_done status one) (crash_lost h m (record { pid = pid; kind = kind.Checkpointer; status = status; now = now }) calm asked there)

-- a startup child has ended without its redo
failed_lost : (h : Heard) (m : Machine) (pid : ℕ) (status : Status) (now : ℕ) → IsCalmSo h [] m → is_not_running m.startup ≡ false → is_exit_0 status ≡ false → is_some m.shutdown ≡ false
    → IsLost h (startup_exited m (record { pid = pid; kind = kind.Startup; status = status; now = now })).acts (startup_exited m (record { pid = pid; kind = kind.Startup; status = status; now = now })).after
unfolding startup_exited crash_rule
failed_lost h m pid status now calm there fails unasked = record {
  lost = grind (arith, calm.starting, calm.not_told, there, fails, unasked);
  over = grind (arith, calm.starting, calm.not_told, there, fails, unasked);
}

pub startup_lost : (h : Heard) (m : Machine) (pid : ℕ) (status : Status) (now : ℕ) (was_active : Bool) → IsCalmSo h [] m → is_not_running m.startup ≡ false → is_exit_1 status ≡ true → is_some m.shutdown ≡ false
    → IsLost h (step m (Exited pid kind.Startup status was_active now)).acts (step m (Exited pid kind.Startup status was_active now)).after
startup_lost h m pid status now was_active calm there one unasked = failed_lost h m pid status now calm there (not_done status one) unasked
