-- A server that nothing has disturbed stays so, call by call and act by act.
use Rattle.std.{proofs.{Common.{◌≡◌, ◌⊎◌, inl, inr, ℕ, ◌≤◌, List, [], ◌∷◌, ◌++◌, None, Some, refl, sym, ◌∙◌, ap, subst, arith}, lemmas.List.Folds.list_any-append, Math.Bool.or-false}, specs.{Prelude.{Bool, true, false, ◌||◌, is_some}, List.{AllByRecursion, list_any}}}
use Rattle.pm_server.specs.{pm_facts.{Lists.each_more, Bools.never_both}, pm_modes.declared.Mode.Mode, pm_admit.declared.Cac.Cac, pm_segment.{Moment.Moment, Moves.IsCountedFrom}}
use Rattle.pm_disk.{specs.Cause.Rose, proofs.DiskLaws.rose_further}
use Rattle.pm_server.specs.pm_exit.declared.child.Kind.TheVariants as kind
use Rattle.pm_server.specs.pm_admit.declared.PmState.TheVariants as state
use Rattle.pm_server.specs.pm_supervisor.declared.Ending.TheVariants as endings
use Rattle.pm_state.{specs.{declared.{action.Action.Action, machine.Machine.Machine}, Exits.exited_by, Journal.without_first, Machine.accepted_as, TurnRules.turned_of}, proofs.ChildLaws.accepted_shutdown}
use Rattle.pm_state.specs.declared.action.Action.TheVariants as act
use Rattle.pm_state.specs.declared.event.PmEvent.TheVariants as entry
use Rattle.pm_supervisor_chain.{specs.Steps.{ChildRun, Notes, Renews, Runs, RunsOn, Step, journal_of}, proofs.FoldsLaws.journal-append}
use Rattle.pm_supervisor_journal.{specs.{Standing.{Standing, act_for, done, entry_for, first_due}, Due.AreOurs}, proofs.NextsLaws.first_is}
use Rattle.pm_once_children.{specs.{Auxiliaries.{HasLess, auxiliaries_after, heard_of}, AuxiliaryRuns.IsRunAs, Calm.{AreCalm, HasFineSession, IsCalm, IsFineExit, is_behind_crash}, declared.auxiliaries.Auxiliaries.Auxiliaries}, proofs.CalmLaws.{acted_calm, shutdown_done, IsQuiet, quiet_of, calm_of, accepted_quiet, still_less, less_startup, exited_quiet, exit_keeps, turned_quiet, HasNotCrashed, no_more, sessions_on, later_one, one_more, ended_run}}
use Rattle.pm_once.specs.{Undisturbed.{IsDisturbedAt, IsDisturbedSo}, View.View}

-- ---- from one moment to another

-- the disk has gone on
pub record GoesOnDisk (from : ℕ) (before now : View) : Type 0 where
  pub later : before.store.faults ≤ now.store.faults
  pub counts : IsCountedFrom from before.store.faults before.store.live → IsCountedFrom from now.store.faults now.store.live

-- by its machine, and what its acts and auxiliary children are
pub record Follows (before now : View) : Type 0 where
  pub asked : is_some before.work.standing.machine.shutdown ≡ true → is_some now.work.standing.machine.shutdown ≡ true
  pub calm : IsCalm before.work.standing before.auxiliaries → IsCalm now.work.standing now.auxiliaries

disturbed_so : (from : ℕ) (before now : View) → before.store.faults ≤ now.store.faults → Follows before now → IsDisturbedSo from before → IsDisturbedSo from now
disturbed_so from before now later follows (inl rose) = inl (rose_further from before.store.faults now.store.faults later rose)
disturbed_so from before now later follows (inr (inl asked)) = inr (inl (follows.asked asked))
disturbed_so from before now later follows (inr (inr calm)) = inr (inr (follows.calm calm))

pub disturbed_on : (from : ℕ) (earlier : List Step) (steps : List Step) (before now : View) → GoesOnDisk from before now → HasNotCrashed earlier steps → Follows before now → IsDisturbedAt from earlier before → IsDisturbedAt from steps now
disturbed_on from earlier steps before now disk none follows is = record {
  counted = disk.counts is.counted;
  stage = disturbed_so from before now disk.later follows is.stage;
  restarts = λ ended. rose_further from before.store.faults now.store.faults disk.later (is.restarts (none.restarts ended));
  sessions = sessions_on from before.store.faults now.store.faults earlier steps disk.later none.sessions is.sessions;
}

-- fewer auxiliary children, and the supervisor is where it was
pub less_follows : (before now : View) → now.work.standing ≡ before.work.standing → HasLess before.auxiliaries now.auxiliaries → Follows before now
less_follows before now same less = record {
  asked = λ asked. ap (λ (s : Standing). is_some s.machine.shutdown) same ∙ asked;
  calm = λ calm. subst (λ (s : Standing). IsCalm s now.auxiliaries) (sym same) (record {
    unasked = calm.unasked;
    stage = calm.stage;
    acts = calm.acts;
    unheard = less.heard ∙ calm.unheard;
    startup = less_startup before.auxiliaries now.auxiliaries (before.work.standing.machine.state ≡ state.Startup) less calm.startup;
  });
}

-- the store is as it was
same_disk : (from : ℕ) (before now : View) → now.store ≡ before.store → GoesOnDisk from before now
same_disk from before now same = record {
  later = subst (λ (m : Moment). before.store.faults ≤ m.faults) (sym same) (omega arith);
  counts = λ counted. subst (λ (m : Moment). IsCountedFrom from m.faults m.live) (sym same) counted;
}

-- a server goes through a crash, or ends in it, where a fault was counted
unrestarted : (from : ℕ) (a : Action) (v : View) → AreOurs (is_some v.work.standing.machine.shutdown) (a ∷ without_first v.work.standing.due)
    → (IsCalm v.work.standing v.auxiliaries → AreCalm v.work.standing.machine.state (a ∷ without_first v.work.standing.due)) → IsDisturbedSo from v → is_behind_crash (entry_for a v.work.standing) ≡ true → Rose from v.store.faults
unrestarted from (act.Start k) v ours calm stage is = absurd cc
unrestarted from (act.Quit why) v ours calm stage is = absurd cc
unrestarted from act.Terminate v ours calm stage is = absurd cc
unrestarted from act.KillAll v ours calm stage is = absurd cc
unrestarted from act.AskCheckpoint v ours calm stage is = absurd cc
unrestarted from act.Ready v ours calm stage is = absurd cc
unrestarted from act.Reset v ours calm (inl rose) is = rose
unrestarted from act.Reset v ours calm (inr (inl asked)) is = absurd (never_both _ asked ours.0)
unrestarted from act.Reset v ours calm (inr (inr quiet)) is = absurd (calm quiet)
unrestarted from (act.Say l) v ours calm stage is = absurd cc
unrestarted from (act.End endings.Clean) v ours calm stage is = absurd cc
unrestarted from (act.End endings.AfterCrash) v ours calm stage is = absurd cc
unrestarted from (act.End endings.StartupFailed) v ours calm stage is = absurd cc
unrestarted from (act.End endings.RestartOff) v ours calm (inl rose) is = rose
unrestarted from (act.End endings.RestartOff) v ours calm (inr (inl asked)) is = absurd (never_both _ asked ours.0)
unrestarted from (act.End endings.RestartOff) v ours calm (inr (inr quiet)) is = absurd (calm quiet)

-- after an act and its entry
pub acted_disturbed : (from : ℕ) (earlier : List Step) (a : Action) (before now : View) → GoesOnDisk from before now → first_due before.work.standing.due ≡ Some a
    → now.work.standing ≡ done a before.work.standing → now.auxiliaries ≡ auxiliaries_after (act_for a before.work.standing) before.auxiliaries
    → AreOurs (is_some before.work.standing.machine.shutdown) (a ∷ without_first before.work.standing.due)
    → IsDisturbedAt from earlier before → IsDisturbedAt from (earlier ++ Notes (entry_for a before.work.standing) ∷ []) now
acted_disturbed from earlier a before now disk first standing auxiliaries ours is = record {
  counted = disk.counts is.counted;
  stage = disturbed_so from before now disk.later (record {
    asked = λ asked. ap (λ (t : Standing). is_some t.machine.shutdown) standing ∙ ap is_some (shutdown_done a before.work.standing) ∙ asked;
    calm = λ calm. subst (λ (t : Standing). IsCalm t now.auxiliaries) (sym standing) (subst (λ (h : Auxiliaries). IsCalm (done a before.work.standing) h) (sym auxiliaries) (acted_calm a before.work.standing before.auxiliaries first calm));
  }) is.stage;
  restarts = λ ended. rose_further from before.store.faults now.store.faults disk.later (restarted (list_any is_behind_crash (journal_of earlier)) refl (sym more ∙ ended));
  sessions = sessions_on from before.store.faults now.store.faults earlier (earlier ++ Notes (entry_for a before.work.standing) ∷ []) disk.later (λ all. each_more HasFineSession earlier (Notes (entry_for a before.work.standing)) all tt) is.sessions;
}
  where
    more : list_any is_behind_crash (journal_of (earlier ++ Notes (entry_for a before.work.standing) ∷ [])) ≡ (list_any is_behind_crash (journal_of earlier) || (is_behind_crash (entry_for a before.work.standing) || false))
    more = ap (list_any is_behind_crash) (journal-append earlier (Notes (entry_for a before.work.standing) ∷ [])) ∙ list_any-append is_behind_crash (journal_of earlier) (entry_for a before.work.standing ∷ [])

    calm_first : IsCalm before.work.standing before.auxiliaries → AreCalm before.work.standing.machine.state (a ∷ without_first before.work.standing.due)
    calm_first calm = subst (λ (l : List Action). AreCalm before.work.standing.machine.state l) (first_is before.work.standing.due a first) calm.acts

    restarted : (was : Bool) → list_any is_behind_crash (journal_of earlier) ≡ was → (list_any is_behind_crash (journal_of earlier) || (is_behind_crash (entry_for a before.work.standing) || false)) ≡ true → Rose from before.store.faults
    restarted true was ended = is.restarts was
    restarted false was ended =
        unrestarted from a before ours calm_first is.stage
        (sym (or-false (is_behind_crash (entry_for a before.work.standing))) ∙ sym (ap (λ (b : Bool). b || (is_behind_crash (entry_for a before.work.standing) || false)) was) ∙ ended)

-- what is known of a child that has run, before its end is noted
pub record HasEndedSo (from : ℕ) (run : ChildRun) (before mid : View) : Type 0 where
  pub told : IsRunAs (heard_of before.auxiliaries) run.kind run
  pub less : HasLess before.auxiliaries mid.auxiliaries
  pub had : run.kind ≡ kind.Startup → before.auxiliaries.startup ≡ None → ⊥
  pub off : run.kind ≡ kind.Startup → mid.auxiliaries.startup ≡ None
  pub sound : (run.kind ≡ kind.Backend → IsFineExit run) ⊎ Rose from mid.store.faults
  pub goes_on : before.work.standing.machine.ended ≡ false

pub ran_disturbed : (from : ℕ) (earlier : List Step) (run : ChildRun) (at now_at : ℕ) (before mid now : View) → GoesOnDisk from before now → mid.store.faults ≤ now.store.faults → HasEndedSo from run before mid → now.auxiliaries ≡ mid.auxiliaries
    → now.work.standing.machine ≡ (exited_by run.kind before.work.standing.machine (record { pid = run.pid; kind = run.kind; status = run.status; now = now_at }) run.was_active).after
    → now.work.standing.due ≡ (exited_by run.kind before.work.standing.machine (record { pid = run.pid; kind = run.kind; status = run.status; now = now_at }) run.was_active).acts
    → IsDisturbedAt from earlier before → IsDisturbedAt from (earlier ++ Runs run at ∷ []) now
ran_disturbed from earlier run at now_at before mid now disk later ended same machine due is = record {
  counted = disk.counts is.counted;
  stage = by_stage is.stage;
  restarts = λ off. rose_further from before.store.faults now.store.faults disk.later (is.restarts (later_one earlier (Runs run at) (ended_run run at) off));
  sessions = by_session ended.sound is.sessions;
}
  where
    by_session : (run.kind ≡ kind.Backend → IsFineExit run) ⊎ Rose from mid.store.faults → AllByRecursion HasFineSession earlier ⊎ Rose from before.store.faults → AllByRecursion HasFineSession (earlier ++ Runs run at ∷ []) ⊎ Rose from now.store.faults
    by_session (inl fine) all = sessions_on from before.store.faults now.store.faults earlier (earlier ++ Runs run at ∷ []) disk.later (λ each. each_more HasFineSession earlier (Runs run at) each fine) all
    by_session (inr rose) all = inr (rose_further from mid.store.faults now.store.faults later rose)

    quietly : (run.kind ≡ kind.Backend → IsFineExit run) → IsCalm before.work.standing before.auxiliaries → IsCalm now.work.standing now.auxiliaries
    quietly fine calm =
        let t = exited_quiet before.work.standing.machine run now_at before.auxiliaries mid.auxiliaries (quiet_of before.work.standing before.auxiliaries calm) ended.goes_on ended.told fine ended.had ended.off ended.less in
        calm_of now.work.standing now.auxiliaries
        (subst (λ (m : Machine). IsQuiet m now.auxiliaries) (sym machine) (subst (λ (h : Auxiliaries). IsQuiet (exited_by run.kind before.work.standing.machine (record { pid = run.pid; kind = run.kind; status = run.status; now = now_at }) run.was_active).after h) (sym same) t.quiet))
        (subst (λ (m : Machine). AreCalm m.state now.work.standing.due) (sym machine) (subst (λ (l : List Action). AreCalm (exited_by run.kind before.work.standing.machine (record { pid = run.pid; kind = run.kind; status = run.status; now = now_at }) run.was_active).after.state l) (sym due) t.acts))

    by_stage : IsDisturbedSo from before → IsDisturbedSo from now
    by_stage (inl rose) = inl (rose_further from before.store.faults now.store.faults disk.later rose)
    by_stage (inr (inl asked)) = inr (inl (ap (λ (m : Machine). is_some m.shutdown) machine ∙ ap is_some (exit_keeps run.kind before.work.standing.machine (record { pid = run.pid; kind = run.kind; status = run.status; now = now_at }) run.was_active) ∙ asked))
    by_stage (inr (inr calm)) = elim ended.sound [
      | inl fine ↦ inr (inr (quietly fine calm))
      | inr rose ↦ inl (rose_further from mid.store.faults now.store.faults later rose)
    ]

-- its end isn't noted
pub ran_on_disturbed : (from : ℕ) (earlier : List Step) (run : ChildRun) (before now : View) → GoesOnDisk from before now → now.work.standing ≡ before.work.standing → HasLess before.auxiliaries now.auxiliaries
    → IsDisturbedAt from earlier before → IsDisturbedAt from (earlier ++ RunsOn run ∷ []) now
ran_on_disturbed from earlier run before now disk same less is = disturbed_on from earlier (earlier ++ RunsOn run ∷ []) before now disk (one_more earlier (RunsOn run) refl tt) (less_follows before now same less) is

-- a renewal
pub renewed_disturbed : (from : ℕ) (earlier : List Step) (generation : ℕ) (gone : List ℕ) (before now : View) → GoesOnDisk from before now → now.work.standing ≡ before.work.standing → now.auxiliaries ≡ before.auxiliaries
    → IsDisturbedAt from earlier before → IsDisturbedAt from (earlier ++ Renews generation gone ∷ []) now
renewed_disturbed from earlier generation gone before now disk same others is =
    disturbed_on from earlier (earlier ++ Renews generation gone ∷ []) before now disk (one_more earlier (Renews generation gone) refl tt)
    (less_follows before now same (subst (λ (h : Auxiliaries). HasLess before.auxiliaries h) (sym others) (still_less before.auxiliaries))) is

-- ---- a call of the supervisor

-- a connection is accepted
pub taken_disturbed : (from : ℕ) (earlier : List Step) (pid : ℕ) (d : Cac) (before now : View) → now.store ≡ before.store → now.auxiliaries ≡ before.auxiliaries → now.work.standing.machine ≡ accepted_as d before.work.standing.machine → now.work.standing.due ≡ []
    → IsDisturbedAt from earlier before → IsDisturbedAt from (earlier ++ Notes (entry.Accepted pid d) ∷ []) now
taken_disturbed from earlier pid d before now store others machine due is =
    disturbed_on from earlier (earlier ++ Notes (entry.Accepted pid d) ∷ []) before now (same_disk from before now store) (one_more earlier (Notes (entry.Accepted pid d)) refl tt) (record {
      asked = λ asked. ap (λ (m : Machine). is_some m.shutdown) machine ∙ ap is_some (accepted_shutdown d before.work.standing.machine) ∙ asked;
      calm = λ calm. calm_of now.work.standing now.auxiliaries
          (subst (λ (m : Machine). IsQuiet m now.auxiliaries) (sym machine) (subst (λ (h : Auxiliaries). IsQuiet (accepted_as d before.work.standing.machine) h) (sym others) (accepted_quiet d before.work.standing.machine before.auxiliaries (quiet_of before.work.standing before.auxiliaries calm))))
          (subst (λ (l : List Action). AreCalm now.work.standing.machine.state l) (sym due) tt);
    }) is

-- a shutdown is asked for
pub asked_disturbed : (from : ℕ) (earlier : List Step) (mode : Mode) (at : ℕ) (before now : View) → now.store ≡ before.store → is_some now.work.standing.machine.shutdown ≡ true
    → IsDisturbedAt from earlier before → IsDisturbedAt from (earlier ++ Notes (entry.Asked mode at) ∷ []) now
asked_disturbed from earlier mode at before now store asked is = record {
  counted = (same_disk from before now store).counts is.counted;
  stage = inr (inl asked);
  restarts = λ off. rose_further from before.store.faults now.store.faults (same_disk from before now store).later (is.restarts (later_one earlier (Notes (entry.Asked mode at)) refl off));
  sessions = sessions_on from before.store.faults now.store.faults earlier (earlier ++ Notes (entry.Asked mode at) ∷ []) (same_disk from before now store).later (λ all. each_more HasFineSession earlier (Notes (entry.Asked mode at)) all tt) is.sessions;
}

-- a turn
pub turned_disturbed : (from : ℕ) (earlier : List Step) (before now : View) → now.store ≡ before.store → now.auxiliaries ≡ before.auxiliaries → before.work.standing.machine.ended ≡ false
    → now.work.standing.machine ≡ (turned_of before.work.standing.machine).after → now.work.standing.due ≡ (turned_of before.work.standing.machine).acts → (turned_of before.work.standing.machine).after.shutdown ≡ before.work.standing.machine.shutdown
    → IsDisturbedAt from earlier before → IsDisturbedAt from earlier now
turned_disturbed from earlier before now store others goes_on machine due keeps is =
    disturbed_on from earlier earlier before now (same_disk from before now store) (no_more earlier) (record {
      asked = λ asked. ap (λ (m : Machine). is_some m.shutdown) machine ∙ ap is_some keeps ∙ asked;
      calm = λ calm.
          let t = turned_quiet before.work.standing.machine before.auxiliaries (quiet_of before.work.standing before.auxiliaries calm) goes_on in
          calm_of now.work.standing now.auxiliaries
          (subst (λ (m : Machine). IsQuiet m now.auxiliaries) (sym machine) (subst (λ (h : Auxiliaries). IsQuiet (turned_of before.work.standing.machine).after h) (sym others) t.quiet))
          (subst (λ (m : Machine). AreCalm m.state now.work.standing.due) (sym machine) (subst (λ (l : List Action). AreCalm (turned_of before.work.standing.machine).after.state l) (sym due) t.acts));
    }) is

-- ---- why it ended

-- in the reset of a generation that has no number
pub spent_disturbed : (from : ℕ) (v : View) → first_due v.work.standing.due ≡ Some act.Reset → AreOurs (is_some v.work.standing.machine.shutdown) v.work.standing.due → IsDisturbedSo from v → Rose from v.store.faults
spent_disturbed from v first ours (inl rose) = rose
spent_disturbed from v first ours (inr (inl asked)) =
    absurd (never_both _ asked (subst (AreOurs (is_some v.work.standing.machine.shutdown)) (first_is v.work.standing.due act.Reset first) ours).0)
spent_disturbed from v first ours (inr (inr calm)) = absurd (subst (λ (l : List Action). AreCalm v.work.standing.machine.state l) (first_is v.work.standing.due act.Reset first) calm.acts)
