-- A supervisor that nothing has disturbed stays so, call by call and act by act.
use Rattle.std.{proofs.{Common.{List, ◌∷◌, ◌≡◌, ◌⊎◌, inl, inr, None, sym, ◌∙◌, ap, subst, refl, Some, ℕ, Option, [], Result, Ok, Err, ◌++◌, ◌≤◌}, lemmas.List.Folds.list_any-append, Math.Bool.or-false}, specs.{Prelude.{Bool, is_some, true, false, if◌then◌else◌, ◌&&◌, ◌||◌}, List.{AllByRecursion, list_any}}}
use Rattle.pm_server.{specs.{pm_facts.{Lists.each_more, Bools.never_both}, pm_admit.{declared.{PmState.PmState, Cac.Cac}, Admission.is_startup}, pm_state.{declared.{action.Action.Action, machine.{StartupStatus.{StartupStatus, TheVariants.Running}, Machine.Machine}, event.PmEvent.PmEvent}, Journal.without_first, Requests.{asked_in, asked_with}, Machine.accepted_as, Transition.{Transition, transition}, Exits.{redo_ended, startup_exited, exit_line, without_startup, less_one, unless_normal, exited_by, crash_rule, is_running, signalled_state, checkpointer_exited, is_shutdown}, TurnRules.{backends_gone, children_gone, dead_ends_gone, end_smart, restart_writer, start_recovery, startup_starts, stop_backends, turned_of}, Starts.has_end}, pm_supervisor_journal.{Standing.{Standing, done, act_for, first_due, IsAtRest}, Stands.Stands}, pm_modes.{declared.Mode.{TheVariants.{Smart, Fast, Immediate}, Mode}, Strength.strengthen_of}, pm_exit.{declared.child.{Status.{TheVariants.Code, Status}, Kind.Kind, Class.Class}, Ends.{is_exit_0, is_exit_1, class_of}}, declared.end.StartWhy.StartWhy, pm_supervisor.declared.Limits.Limits}, proofs.{pm_supervisor_journal.NextsLaws.first_is, pm_state.TurnLaws.{turn-startup, turn-serving}}}
use Rattle.pm_server.specs.pm_exit.declared.child.Kind.TheVariants as kind
use Rattle.pm_server.specs.pm_supervisor.declared.Ending.TheVariants as endings
use Rattle.pm_server.specs.pm_state.declared.action.Action.TheVariants as act
use Rattle.pm_server.specs.pm_state.declared.action.Line.TheVariants as line
use Rattle.pm_once_children.specs.{Calm.{AreCalm, IsCalm, IsUp, IsFineExit, HasFineSession, is_behind_crash}, Auxiliaries.{heard_of, auxiliaries_after, HasLess}, AuxiliaryRuns.{nothing_heard, start_status, Heard, IsCheckpointerRun, IsWriterRun, IsRunAs}, declared.auxiliaries.Auxiliaries.Auxiliaries}
use Rattle.pm_server.specs.pm_admit.declared.PmState.TheVariants as state
use Rattle.pm_once_acts.{proofs.{ActsLaws.due_kept, pm_supervisor_chain.FoldsLaws.journal-append}, specs.pm_supervisor_chain.Steps.{ChildRun, Step, journal_of, Runs, redo_end}}
use Rattle.pm_server.specs.pm_admit.declared.Cac.TheVariants as decisions
use Rattle.pm_server.specs.pm_exit.declared.child.Class.TheVariants as class
use Rattle.pm_disk.{specs.Cause.Rose, proofs.DiskLaws.rose_further}
use Rattle.pm_server.specs.pm_state.declared.event.PmEvent.TheVariants as entry

-- ---- an act is done

calm_tail : (at : PmState) (a : Action) (rest : List Action) → AreCalm at (a ∷ rest) → AreCalm at rest
calm_tail at (act.Start kind.Startup) rest calm = calm.1
calm_tail at (act.Start kind.Checkpointer) rest calm = calm
calm_tail at (act.Start kind.Writer) rest calm = calm
calm_tail at (act.Start kind.Worker) rest calm = calm
calm_tail at (act.Start kind.Backend) rest calm = calm
calm_tail at (act.Start kind.DeadEnd) rest calm = calm
calm_tail at (act.Quit why) rest calm = absurd calm
calm_tail at act.Terminate rest calm = absurd calm
calm_tail at act.KillAll rest calm = absurd calm
calm_tail at act.AskCheckpoint rest calm = absurd calm
calm_tail at act.Ready rest calm = calm
calm_tail at act.Reset rest calm = absurd calm
calm_tail at (act.Say line) rest calm = calm
calm_tail at (act.End endings.Clean) rest calm = absurd calm
calm_tail at (act.End endings.AfterCrash) rest calm = absurd calm
calm_tail at (act.End endings.StartupFailed) rest calm = calm
calm_tail at (act.End endings.RestartOff) rest calm = absurd calm

-- what is left where no act has changed what the machine shows
left_calm : (a : Action) (s : Standing) (auxiliaries now : Auxiliaries) → IsCalm s auxiliaries → AreCalm s.machine.state (a ∷ without_first s.due)
    → (done a s).machine.state ≡ s.machine.state → (done a s).machine.shutdown ≡ s.machine.shutdown → (done a s).machine.ended ≡ s.machine.ended → (done a s).machine.startup ≡ s.machine.startup → (done a s).machine.conns ≡ s.machine.conns
    → heard_of now ≡ nothing_heard → (now.startup ≡ None) ⊎ (s.machine.state ≡ state.Startup) → IsCalm (done a s) now
left_calm a s auxiliaries now calm acts same_state same_shutdown same_ended same_startup same_conns unheard startup = record {
  unasked = ap is_some same_shutdown ∙ calm.unasked;
  stage = elim calm.stage [
    | inl over ↦ inl (same_ended ∙ over)
    | inr up ↦ inr (subst (λ (x : PmState). IsUp x (done a s).machine.startup (done a s).machine.conns) (sym same_state)
        (subst (λ (x : StartupStatus). IsUp s.machine.state x (done a s).machine.conns) (sym same_startup) (subst (λ (x : Bool). IsUp s.machine.state s.machine.startup x) (sym same_conns) up)))
  ];
  acts = subst (λ (x : PmState). AreCalm x (done a s).due) (sym same_state) (subst (λ (l : List Action). AreCalm s.machine.state l) (sym (due_kept a s)) (calm_tail s.machine.state a (without_first s.due) acts));
  unheard = unheard;
  startup = elim startup [ inl none ↦ inl none | inr starts ↦ inr (same_state ∙ starts) ];
}

acted_as : (a : Action) (s : Standing) (auxiliaries : Auxiliaries) → IsCalm s auxiliaries → AreCalm s.machine.state (a ∷ without_first s.due) → IsCalm (done a s) (auxiliaries_after (act_for a s) auxiliaries)
acted_as (act.Start kind.Startup) s auxiliaries calm acts = left_calm (act.Start kind.Startup) s auxiliaries _ calm acts refl refl refl refl refl refl (inr acts.0)
acted_as (act.Start kind.Checkpointer) s auxiliaries calm acts = left_calm (act.Start kind.Checkpointer) s auxiliaries _ calm acts refl refl refl refl refl calm.unheard calm.startup
acted_as (act.Start kind.Writer) s auxiliaries calm acts = left_calm (act.Start kind.Writer) s auxiliaries _ calm acts refl refl refl refl refl calm.unheard calm.startup
acted_as (act.Start kind.Worker) s auxiliaries calm acts = left_calm (act.Start kind.Worker) s auxiliaries _ calm acts refl refl refl refl refl calm.unheard calm.startup
acted_as (act.Start kind.Backend) s auxiliaries calm acts = left_calm (act.Start kind.Backend) s auxiliaries _ calm acts refl refl refl refl refl calm.unheard calm.startup
acted_as (act.Start kind.DeadEnd) s auxiliaries calm acts = left_calm (act.Start kind.DeadEnd) s auxiliaries _ calm acts refl refl refl refl refl calm.unheard calm.startup
acted_as (act.Quit why) s auxiliaries calm acts = absurd acts
acted_as act.Terminate s auxiliaries calm acts = absurd acts
acted_as act.KillAll s auxiliaries calm acts = absurd acts
acted_as act.AskCheckpoint s auxiliaries calm acts = absurd acts
acted_as act.Ready s auxiliaries calm acts = left_calm act.Ready s auxiliaries _ calm acts refl refl refl refl refl calm.unheard calm.startup
acted_as act.Reset s auxiliaries calm acts = absurd acts
acted_as (act.Say line) s auxiliaries calm acts = left_calm (act.Say line) s auxiliaries _ calm acts refl refl refl refl refl calm.unheard calm.startup
acted_as (act.End endings.Clean) s auxiliaries calm acts = absurd acts
acted_as (act.End endings.AfterCrash) s auxiliaries calm acts = absurd acts
acted_as (act.End endings.StartupFailed) s auxiliaries calm acts = left_calm (act.End endings.StartupFailed) s auxiliaries _ calm acts refl refl refl refl refl calm.unheard calm.startup
acted_as (act.End endings.RestartOff) s auxiliaries calm acts = absurd acts

pub acted_calm : (a : Action) (s : Standing) (auxiliaries : Auxiliaries) → first_due s.due ≡ Some a → IsCalm s auxiliaries → IsCalm (done a s) (auxiliaries_after (act_for a s) auxiliaries)
acted_calm a s auxiliaries first calm = acted_as a s auxiliaries calm (subst (λ (l : List Action). AreCalm s.machine.state l) (first_is s.due a first) calm.acts)

pub shutdown_done : (a : Action) (s : Standing) → (done a s).machine.shutdown ≡ s.machine.shutdown
shutdown_done (act.Start kind.Startup) s = refl
shutdown_done (act.Start kind.Checkpointer) s = refl
shutdown_done (act.Start kind.Writer) s = refl
shutdown_done (act.Start kind.Worker) s = refl
shutdown_done (act.Start kind.Backend) s = refl
shutdown_done (act.Start kind.DeadEnd) s = refl
shutdown_done (act.Quit why) s = refl
shutdown_done act.Terminate s = refl
shutdown_done act.KillAll s = refl
shutdown_done act.AskCheckpoint s = refl
shutdown_done act.Ready s = refl
shutdown_done act.Reset s = refl
shutdown_done (act.Say line) s = refl
shutdown_done (act.End how) s = refl

-- ---- a request

asks_state : (at : PmState) (m : Machine) (now : ℕ) → (asked_in Smart at (record m { shutdown = Some Smart }) now).after.shutdown ≡ Some Smart
asks_state state.Init m now = refl
asks_state state.Startup m now = refl
asks_state state.Run m now = refl
asks_state state.StopBackends m now = refl
asks_state state.WaitBackends m now = refl
asks_state state.Shutdown m now = refl
asks_state state.WaitDeadEnd m now = refl
asks_state state.NoChildren m now = refl

-- after it one stands
pub asked_stands : (m : Machine) (now : ℕ) → is_some (asked_with (strengthen_of m.shutdown Smart) m now).after.shutdown ≡ true
asked_stands m now = by_mode m.shutdown refl
  where
    by_mode : (before : Option Mode) → m.shutdown ≡ before → is_some (asked_with (strengthen_of before Smart) m now).after.shutdown ≡ true
    by_mode None is = ap is_some (asks_state m.state m now)
    by_mode (Some Smart) is = ap is_some is
    by_mode (Some Fast) is = ap is_some is
    by_mode (Some Immediate) is = ap is_some is

-- ---- a connection

-- the machine alone, with nothing due
pub record IsQuiet (m : Machine) (auxiliaries : Auxiliaries) : Type 0 where
  pub unasked : is_some m.shutdown ≡ false
  pub stage : (m.ended ≡ true) ⊎ IsUp m.state m.startup m.conns
  pub unheard : heard_of auxiliaries ≡ nothing_heard
  pub startup : (auxiliaries.startup ≡ None) ⊎ (m.state ≡ state.Startup)

pub quiet_of : (s : Standing) (auxiliaries : Auxiliaries) → IsCalm s auxiliaries → IsQuiet s.machine auxiliaries
quiet_of s auxiliaries calm = record { unasked = calm.unasked; stage = calm.stage; unheard = calm.unheard; startup = calm.startup }

pub calm_of : (s : Standing) (auxiliaries : Auxiliaries) → IsQuiet s.machine auxiliaries → AreCalm s.machine.state s.due → IsCalm s auxiliaries
calm_of s auxiliaries quiet acts = record { unasked = quiet.unasked; stage = quiet.stage; acts = acts; unheard = quiet.unheard; startup = quiet.startup }

pub accepted_quiet : (d : Cac) (m : Machine) (auxiliaries : Auxiliaries) → IsQuiet m auxiliaries → IsQuiet (accepted_as d m) auxiliaries
accepted_quiet decisions.Ok m auxiliaries quiet = record { unasked = quiet.unasked; stage = quiet.stage; unheard = quiet.unheard; startup = quiet.startup }
accepted_quiet decisions.Startup m auxiliaries quiet = record { unasked = quiet.unasked; stage = quiet.stage; unheard = quiet.unheard; startup = quiet.startup }
accepted_quiet decisions.Recovery m auxiliaries quiet = record { unasked = quiet.unasked; stage = quiet.stage; unheard = quiet.unheard; startup = quiet.startup }
accepted_quiet decisions.Shutdown m auxiliaries quiet = record { unasked = quiet.unasked; stage = quiet.stage; unheard = quiet.unheard; startup = quiet.startup }
accepted_quiet decisions.TooMany m auxiliaries quiet = record { unasked = quiet.unasked; stage = quiet.stage; unheard = quiet.unheard; startup = quiet.startup }

-- ---- the end of a child

-- a transition that leaves what stands, and whose acts are calm
pub record StaysQuiet (t : Transition) (auxiliaries : Auxiliaries) : Type 0 where
  pub quiet : IsQuiet t.after auxiliaries
  pub acts : AreCalm t.after.state t.acts

-- redo has ended
redo_well : (m : Machine) (pid now : ℕ) → is_some m.shutdown ≡ false → startup_exited m (record { pid = pid; kind = kind.Startup; status = Code 0; now = now }) ≡ redo_ended m
unfolding startup_exited
redo_well m pid now unasked = rw unasked refl

-- the start has failed
redo_failed : (m : Machine) (pid now : ℕ) → is_some m.shutdown ≡ false → m.state ≡ state.Startup → m.startup ≡ Running
    → startup_exited m (record { pid = pid; kind = kind.Startup; status = Code 1; now = now })
    ≡ transition (act.Say (exit_line (record { pid = pid; kind = kind.Startup; status = Code 1; now = now })) ∷ act.Say line.AbortingStartup ∷ act.End endings.StartupFailed ∷ []) (record (without_startup m m.state) { ended = true })
unfolding startup_exited
redo_failed m pid now unasked starts runs = rw (unasked, starts, runs) refl

pub still_less : (auxiliaries : Auxiliaries) → HasLess auxiliaries auxiliaries
still_less auxiliaries = record { heard = refl; startup = inr refl }

pub less_startup : (before now : Auxiliaries) (Starts : Type 0) → HasLess before now → (before.startup ≡ None) ⊎ Starts → (now.startup ≡ None) ⊎ Starts
less_startup before now Starts less (inr starts) = inr starts
less_startup before now Starts less (inl none) = inl (elim less.startup [ inl gone ↦ gone | inr same ↦ same ∙ none ])

startup_quiet : (m : Machine) (run : ChildRun) (now : ℕ) (before after : Auxiliaries) → IsQuiet m before → m.ended ≡ false → (read : Result ℕ (Option StartWhy)) → (before.startup ≡ None → ⊥) → HasLess before after → after.startup ≡ None
    → StaysQuiet (startup_exited m (record { pid = run.pid; kind = kind.Startup; status = start_status read; now = now })) after
startup_quiet m run now before after quiet goes_on (Ok kept) had less off =
    subst (λ (t : Transition). StaysQuiet t after) (sym (redo_well m run.pid now quiet.unasked)) (record {
      quiet = record { unasked = quiet.unasked; stage = inr refl; unheard = less.heard ∙ quiet.unheard; startup = inl off };
      acts = tt;
    })
startup_quiet m run now before after quiet goes_on (Err why) had less off =
    subst (λ (t : Transition). StaysQuiet t after) (sym (redo_failed m run.pid now quiet.unasked starts runs)) (record {
      quiet = record { unasked = quiet.unasked; stage = inl refl; unheard = less.heard ∙ quiet.unheard; startup = inl off };
      acts = tt;
    })
  where
    starts : m.state ≡ state.Startup
    starts = elim quiet.startup [ inl none ↦ absurd (had none) | inr is ↦ is ]

    runs : m.startup ≡ Running
    runs = elim quiet.stage [
      | inl over ↦ absurd (never_both m.ended over goes_on)
      | inr up ↦ subst (λ (x : PmState). IsUp x m.startup m.conns) starts up
    ]

untold_checkpointer : (heard : Heard) (run : ChildRun) → heard ≡ nothing_heard → IsCheckpointerRun heard run → ⊥
untold_checkpointer heard run none (inl told) = never_both heard.quit told.0 (ap (λ (h : Heard). h.quit) none)
untold_checkpointer heard run none (inr told) = never_both heard.asked told.1 (ap (λ (h : Heard). h.asked) none)

untold_writer : (heard : Heard) (run : ChildRun) → heard ≡ nothing_heard → IsWriterRun heard run → ⊥
untold_writer heard run none (inl told) = never_both heard.quit told.0 (ap (λ (h : Heard). h.quit) none)
untold_writer heard run none (inr told) = never_both heard.terminated told.1 (ap (λ (h : Heard). h.terminated) none)

fine_quiet : (m : Machine) (exit : _) (before after : Auxiliaries) (fine : Bool) → fine ≡ true → IsQuiet m before → HasLess before after → StaysQuiet (unless_normal (if fine then class.Normal else class.Crash) (less_one kind.Backend m) exit) after
fine_quiet m exit before after fine is quiet less =
    subst (λ (b : Bool). StaysQuiet (unless_normal (if b then class.Normal else class.Crash) (less_one kind.Backend m) exit) after) (sym is) (record {
      quiet = record { unasked = quiet.unasked; stage = quiet.stage; unheard = less.heard ∙ quiet.unheard; startup = less_startup before after (m.state ≡ state.Startup) less quiet.startup };
      acts = tt;
    })

-- a child that was told nothing ends, and no session has crashed
pub exited_quiet : (m : Machine) (run : ChildRun) (now : ℕ) (before after : Auxiliaries) → IsQuiet m before → m.ended ≡ false → IsRunAs (heard_of before) run.kind run → (run.kind ≡ kind.Backend → IsFineExit run)
    → (run.kind ≡ kind.Startup → before.startup ≡ None → ⊥) → (run.kind ≡ kind.Startup → after.startup ≡ None) → HasLess before after
    → StaysQuiet (exited_by run.kind m (record { pid = run.pid; kind = run.kind; status = run.status; now = now }) run.was_active) after
exited_quiet m run now before after quiet goes_on told fine had off less = by_kind run.kind refl
  where
    told_as : (k : Kind) → run.kind ≡ k → IsRunAs (heard_of before) k run
    told_as k is = subst (λ (x : Kind). IsRunAs (heard_of before) x run) is told

    by_kind : (k : Kind) → run.kind ≡ k → StaysQuiet (exited_by k m (record { pid = run.pid; kind = k; status = run.status; now = now }) run.was_active) after
    by_kind kind.Startup is =
        let start = told_as kind.Startup is in
        subst (λ (status : Status). StaysQuiet (startup_exited m (record { pid = run.pid; kind = kind.Startup; status = status; now = now })) after) (sym (ap (λ (r : ChildRun). r.status) start.2))
        (startup_quiet m run now before after quiet goes_on start.0 (had is) less (off is))
    by_kind kind.Checkpointer is = absurd (untold_checkpointer (heard_of before) run quiet.unheard (told_as kind.Checkpointer is))
    by_kind kind.Writer is = absurd (untold_writer (heard_of before) run quiet.unheard (told_as kind.Writer is))
    by_kind kind.Worker is = absurd (told_as kind.Worker is)
    by_kind kind.Backend is = fine_quiet m (record { pid = run.pid; kind = kind.Backend; status = run.status; now = now }) before after _ (fine is) quiet less
    by_kind kind.DeadEnd is = absurd (told_as kind.DeadEnd is)

-- a request that stands goes on standing

crash_keeps : (m : Machine) (exit : _) → (crash_rule m exit).after.shutdown ≡ m.shutdown
unfolding crash_rule
crash_keeps m exit = refl

either_keeps : (b : Bool) (one two : Transition) (shutdown : Option Mode) → one.after.shutdown ≡ shutdown → two.after.shutdown ≡ shutdown → (if b then one else two).after.shutdown ≡ shutdown
either_keeps true one two shutdown first second = first
either_keeps false one two shutdown first second = second

startup_keeps : (m : Machine) (exit : _) → (startup_exited m exit).after.shutdown ≡ m.shutdown
unfolding startup_exited
startup_keeps m exit =
    either_keeps (is_some m.shutdown && (is_exit_0 exit.status || is_exit_1 exit.status)) _ _ m.shutdown refl
    (either_keeps (is_exit_0 exit.status) _ _ m.shutdown refl
    (either_keeps (is_startup m.state && is_running m.startup) _ _ m.shutdown refl (crash_keeps (without_startup m (signalled_state m.state)) exit)))

normal_keeps : (c : Class) (m : Machine) (exit : _) → (unless_normal c m exit).after.shutdown ≡ m.shutdown
normal_keeps class.Normal m exit = refl
normal_keeps class.Crash m exit = crash_keeps m exit
normal_keeps class.StartupFailed m exit = crash_keeps m exit

checkpointer_keeps : (c : Class) (m : Machine) (exit : _) → (checkpointer_exited c m exit).after.shutdown ≡ m.shutdown
checkpointer_keeps class.Normal m exit = refl
checkpointer_keeps class.Crash m exit = crash_keeps m exit
checkpointer_keeps class.StartupFailed m exit = crash_keeps m exit

pub exit_keeps : (k : Kind) (m : Machine) (exit : _) (active : Bool) → (exited_by k m exit active).after.shutdown ≡ m.shutdown
exit_keeps kind.Startup m exit active = startup_keeps m exit
exit_keeps kind.Checkpointer m exit active = checkpointer_keeps (class_of kind.Checkpointer (is_shutdown m.state) active exit.status) (less_one kind.Checkpointer m) exit
exit_keeps kind.Writer m exit active = normal_keeps (class_of kind.Writer (is_shutdown m.state) active exit.status) (less_one kind.Writer m) exit
exit_keeps kind.Worker m exit active = normal_keeps (class_of kind.Worker (is_shutdown m.state) active exit.status) (less_one kind.Worker m) exit
exit_keeps kind.Backend m exit active = normal_keeps (class_of kind.Backend (is_shutdown m.state) active exit.status) (less_one kind.Backend m) exit
exit_keeps kind.DeadEnd m exit active = normal_keeps (class_of kind.DeadEnd (is_shutdown m.state) active exit.status) (less_one kind.DeadEnd m) exit

-- ---- a turn

turned_init : (m : Machine) → turned_of (record m { state = state.Init }) ≡ transition (act.Start kind.Startup ∷ []) (startup_starts (record m { state = state.Init }))
unfolding turned_of start_recovery restart_writer end_smart stop_backends backends_gone dead_ends_gone children_gone
turned_init m = refl

turned_alone : (m : Machine) → turned_of (record m { state = state.Run; conns = true; writer = false }) ≡ transition (act.Start kind.Writer ∷ []) (record m { state = state.Run; conns = true; writer = false; writer_due = true })
unfolding turned_of start_recovery restart_writer end_smart stop_backends backends_gone dead_ends_gone children_gone
turned_alone m = refl

pub turned_quiet : (m : Machine) (auxiliaries : Auxiliaries) → IsQuiet m auxiliaries → m.ended ≡ false → StaysQuiet (turned_of m) auxiliaries
turned_quiet m auxiliaries quiet goes_on = elim quiet.stage [
  | inl over ↦ absurd (never_both m.ended over goes_on)
  | inr up ↦ by_state m.state refl up
]
  where
    running : (w : Bool) → m.writer ≡ w → m.state ≡ state.Run → m.conns ≡ true → m ≡ record m { state = state.Run; conns = true; writer = w }
    running w writes is listens =
        ap (λ (x : PmState). record m { state = x }) is ∙ ap (λ (x : Bool). record m { state = state.Run; conns = x }) listens
        ∙ ap (λ (x : Bool). record m { state = state.Run; conns = true; writer = x }) writes

    at_run : (w : Bool) → m.writer ≡ w → m.state ≡ state.Run → m.conns ≡ true → StaysQuiet (turned_of m) auxiliaries
    at_run true writes is listens =
        subst (λ (n : Machine). StaysQuiet (turned_of n) auxiliaries) (sym (running true writes is listens)) (subst (λ (t : Transition). StaysQuiet t auxiliaries) (sym (turn-serving m)) (record {
          quiet = record { unasked = quiet.unasked; stage = inr refl; unheard = quiet.unheard; startup = elim quiet.startup [ inl none ↦ inl none | inr starts ↦ inr (sym is ∙ starts) ] };
          acts = tt;
        }))
    at_run false writes is listens =
        subst (λ (n : Machine). StaysQuiet (turned_of n) auxiliaries) (sym (running false writes is listens)) (subst (λ (t : Transition). StaysQuiet t auxiliaries) (sym (turned_alone m)) (record {
          quiet = record { unasked = quiet.unasked; stage = inr refl; unheard = quiet.unheard; startup = elim quiet.startup [ inl none ↦ inl none | inr starts ↦ inr (sym is ∙ starts) ] };
          acts = tt;
        }))

    by_state : (at : PmState) → m.state ≡ at → IsUp m.state m.startup m.conns → StaysQuiet (turned_of m) auxiliaries
    by_state state.Init is up =
        subst (λ (n : Machine). StaysQuiet (turned_of n) auxiliaries) (sym (ap (λ (x : PmState). record m { state = x }) is)) (subst (λ (t : Transition). StaysQuiet t auxiliaries) (sym (turned_init m)) (record {
          quiet = record { unasked = quiet.unasked; stage = inr refl; unheard = quiet.unheard; startup = inr refl };
          acts = (refl, tt);
        }))
    by_state state.Startup is up =
        subst (λ (n : Machine). StaysQuiet (turned_of n) auxiliaries) (sym (ap (λ (x : PmState). record m { state = x }) is)) (subst (λ (t : Transition). StaysQuiet t auxiliaries) (sym (turn-startup m)) (record {
          quiet = record { unasked = quiet.unasked; stage = inr (subst (λ (x : PmState). IsUp x m.startup m.conns) is up); unheard = quiet.unheard; startup = inr refl };
          acts = tt;
        }))
    by_state state.Run is up = at_run m.writer refl is (subst (λ (x : PmState). IsUp x m.startup m.conns) is up)
    by_state state.StopBackends is up = absurd (subst (λ (x : PmState). IsUp x m.startup m.conns) is up)
    by_state state.WaitBackends is up = absurd (subst (λ (x : PmState). IsUp x m.startup m.conns) is up)
    by_state state.Shutdown is up = absurd (subst (λ (x : PmState). IsUp x m.startup m.conns) is up)
    by_state state.WaitDeadEnd is up = absurd (subst (λ (x : PmState). IsUp x m.startup m.conns) is up)
    by_state state.NoChildren is up = absurd (subst (λ (x : PmState). IsUp x m.startup m.conns) is up)

-- where nothing is due and the server goes on, its machine does
pub goes_on_so : (s : Standing) (limits : Limits) (journal : List PmEvent) (h : _) → Stands limits (Some journal) s h → IsAtRest s → s.machine.ended ≡ false
goes_on_so s limits journal h stands rests =
    sym stands.coming.ended ∙ ap (λ (b : Bool). b || has_end s.due) rests.goes_on ∙ ap has_end rests.none_due

-- nothing that a crash leads to was noted, and no session's child has crashed
pub record HasNotCrashed (before now : List Step) : Type 0 where
  pub restarts : list_any is_behind_crash (journal_of now) ≡ true → list_any is_behind_crash (journal_of before) ≡ true
  pub sessions : AllByRecursion HasFineSession before → AllByRecursion HasFineSession now

pub no_more : (steps : List Step) → HasNotCrashed steps steps
no_more steps = record { restarts = λ was. was; sessions = λ was. was }

pub sessions_on : (from before now : ℕ) (earlier steps : List Step) → before ≤ now → (AllByRecursion HasFineSession earlier → AllByRecursion HasFineSession steps) → AllByRecursion HasFineSession earlier ⊎ Rose from before → AllByRecursion HasFineSession steps ⊎ Rose from now
sessions_on from before now earlier steps later more (inl all) = inl (more all)
sessions_on from before now earlier steps later more (inr rose) = inr (rose_further from before now later rose)

pub later_one : (earlier : List Step) (step : Step) → list_any is_behind_crash (journal_of (step ∷ [])) ≡ false → list_any is_behind_crash (journal_of (earlier ++ step ∷ [])) ≡ true → list_any is_behind_crash (journal_of earlier) ≡ true
later_one earlier step none is =
    sym (or-false (list_any is_behind_crash (journal_of earlier))) ∙ ap (λ (b : Bool). list_any is_behind_crash (journal_of earlier) || b) (sym none)
    ∙ sym (list_any-append is_behind_crash (journal_of earlier) (journal_of (step ∷ []))) ∙ ap (list_any is_behind_crash) (sym (journal-append earlier (step ∷ []))) ∙ is

pub one_more : (earlier : List Step) (step : Step) → list_any is_behind_crash (journal_of (step ∷ [])) ≡ false → HasFineSession step → HasNotCrashed earlier (earlier ++ step ∷ [])
one_more earlier step none fine = record { restarts = later_one earlier step none; sessions = λ all. each_more HasFineSession earlier step all fine }

-- ---- the end of a child

pub ended_run : (run : ChildRun) (at : ℕ) → list_any is_behind_crash (journal_of (Runs run at ∷ [])) ≡ false
ended_run run at = by_kept run.kept
  where
    by_kept : (kept : Option ℕ) → list_any is_behind_crash ((entry.Exited run.pid run.kind run.status run.was_active at ∷ redo_end run.generation kept) ++ []) ≡ false
    by_kept None = refl
    by_kept (Some kept) = refl
