-- What the children that serve no connection were told, step by step, and what they came to.
use Rattle.std.{proofs.{Common.{◌≡◌, List, ◌++◌, [], ◌∷◌, subst, refl, Option, None, Some, ◌⊎◌, inl, inr, sym, ◌∙◌, ap}, lemmas.List.Sums.fold-append}, specs.Prelude.{fold, IsSomeAnd}}
use Rattle.pm_server.specs.{pm_state.declared.{event.PmEvent.PmEvent, action.Action.Action}, pm_supervisor_journal.Standing.{Standing, act_for, entry_for}, declared.end.StartWhy.StartWhy}
use Rattle.pm_once_children.specs.{AuxiliaryRuns.{Heard, heard_after, AreToldBehind, IsToldRun, last_startup, startup_after, IsRefusedRun, startup_or, heard_in, nothing_heard, IsRunAs}, Auxiliaries.{auxiliaries_after, heard_of}, declared.{auxiliaries.Auxiliaries.Auxiliaries, outcome.Outcome.{Outcome, TheVariants.{Closed, Refused}}}, Outcomes.{IsRefusedSo, ComesTo, AreCaused}}
use Rattle.pm_once_acts.{specs.pm_supervisor_chain.Steps.{Step, journal_by, journal_of, redo_end, ChildRun, Notes, Renews, Runs, RunsOn}, proofs.pm_supervisor_chain.FoldsLaws.journal-append}
use Rattle.pm_server.specs.pm_exit.declared.child.Kind.TheVariants as kind
use Rattle.pm_server.specs.pm_state.declared.action.Action.TheVariants as act

-- ---- what was told

heard-append : (heard : Heard) (one two : List PmEvent) → fold heard_after heard (one ++ two) ≡ fold heard_after (fold heard_after heard one) two
heard-append heard one two = fold-append heard_after heard one two

told_more : (heard : Heard) (earlier : List Step) (step : Step) → AreToldBehind heard earlier → IsToldRun (fold heard_after heard (journal_of earlier)) step → AreToldBehind heard (earlier ++ step ∷ [])
told_more heard [] step all told = (told, tt)
told_more heard (first ∷ earlier) step all told = (
  all.0,
  told_more (fold heard_after heard (journal_by first)) earlier step all.1 (subst (λ (h : Heard). IsToldRun h step) (heard-append heard (journal_by first) (journal_of earlier)) told),
)

-- an act tells what its entry says
pub acted_heard : (a : Action) (s : Standing) (auxiliaries : Auxiliaries) → heard_of (auxiliaries_after (act_for a s) auxiliaries) ≡ heard_after (heard_of auxiliaries) (entry_for a s)
acted_heard (act.Start kind.Startup) s auxiliaries = refl
acted_heard (act.Start kind.Checkpointer) s auxiliaries = refl
acted_heard (act.Start kind.Writer) s auxiliaries = refl
acted_heard (act.Start kind.Worker) s auxiliaries = refl
acted_heard (act.Start kind.Backend) s auxiliaries = refl
acted_heard (act.Start kind.DeadEnd) s auxiliaries = refl
acted_heard (act.Quit why) s auxiliaries = refl
acted_heard act.Terminate s auxiliaries = refl
acted_heard act.KillAll s auxiliaries = refl
acted_heard act.AskCheckpoint s auxiliaries = refl
acted_heard act.Ready s auxiliaries = refl
acted_heard act.Reset s auxiliaries = refl
acted_heard (act.Say line) s auxiliaries = refl
acted_heard (act.End how) s auxiliaries = refl

unheard : (heard : Heard) (generation : _) (kept : Option _) → fold heard_after heard (redo_end generation kept) ≡ heard
unheard heard generation None = refl
unheard heard generation (Some kept) = refl

-- ---- the last startup child

last_more : (earlier : List Step) (step : Step) → last_startup (earlier ++ step ∷ []) ≡ startup_after (last_startup earlier) step
last_more earlier step = fold-append startup_after None earlier (step ∷ [])

-- the same was refused, or nobody
pub refused_same : (before now : Option Outcome) (earlier : List Step) (step : Step) → (now ≡ before) ⊎ (now ≡ None) → startup_after (last_startup earlier) step ≡ last_startup earlier → IsRefusedSo before earlier → IsRefusedSo now (earlier ++ step ∷ [])
refused_same before now earlier step (inr none) same refused = subst (λ (o : Option Outcome). IsRefusedSo o (earlier ++ step ∷ [])) (sym none) tt
refused_same before now earlier step (inl still) same refused =
    subst (λ (o : Option Outcome). IsRefusedSo o (earlier ++ step ∷ [])) (sym still) (as_before before refused)
  where
    as_before : (o : Option Outcome) → IsRefusedSo o earlier → IsRefusedSo o (earlier ++ step ∷ [])
    as_before None refused = tt
    as_before (Some (Closed closed)) refused = tt
    as_before (Some (Refused why)) refused = subst (λ (r : Option ChildRun). IsSomeAnd r (IsRefusedRun why)) (sym (last_more earlier step ∙ same)) refused

-- the child is a startup child where it is refused
refused_kind : (last : Option ChildRun) (why : StartWhy) (run : ChildRun) → IsRefusedRun why run → startup_or last run.kind run ≡ Some run
refused_kind last why run refused = ap (λ k. startup_or last k run) (ap (λ (r : ChildRun). r.kind) refused.1)

-- after the run of a child
refused_ran : (before now : Option Outcome) (earlier : List Step) (step : Step) (run : ChildRun) → startup_after (last_startup earlier) step ≡ startup_or (last_startup earlier) run.kind run
    → ComesTo run before now → IsRefusedSo before earlier → IsRefusedSo now (earlier ++ step ∷ [])
refused_ran before None earlier step run is came refused = tt
refused_ran before (Some (Closed closed)) earlier step run is came refused = tt
refused_ran before (Some (Refused why)) earlier step run is (inl its) refused =
    subst (λ (r : Option ChildRun). IsSomeAnd r (IsRefusedRun why)) (sym (last_more earlier step ∙ is ∙ refused_kind (last_startup earlier) why run its)) its
refused_ran before (Some (Refused why)) earlier step run is (inr other) refused =
    subst (λ (r : Option ChildRun). IsSomeAnd r (IsRefusedRun why)) (sym (last_more earlier step ∙ is ∙ other.1 (last_startup earlier)))
    (subst (λ (o : Option Outcome). IsRefusedSo o earlier) other.0 refused)

-- ---- one step more

in_journal : (earlier : List Step) (step : Step) → heard_in (journal_of (earlier ++ step ∷ [])) ≡ fold heard_after (heard_in (journal_of earlier)) (journal_of (step ∷ []))
in_journal earlier step = ap heard_in (journal-append earlier (step ∷ [])) ∙ heard-append nothing_heard (journal_of earlier) (journal_of (step ∷ []))

-- an entry that stands by itself
pub caused_entry : (earlier : List Step) (e : PmEvent) (before now : Auxiliaries) (was is : Option Outcome) → heard_of now ≡ heard_after (heard_of before) e → (is ≡ was) ⊎ (is ≡ None)
    → AreCaused earlier before was → AreCaused (earlier ++ Notes e ∷ []) now is
caused_entry earlier e before now was is heard still causes = record {
  told_so = heard ∙ ap (λ (h : Heard). heard_after h e) causes.told_so ∙ sym (in_journal earlier (Notes e));
  runs = told_more nothing_heard earlier (Notes e) causes.runs tt;
  refused = refused_same was is earlier (Notes e) still refl causes.refused;
}

-- a renewal
pub caused_renewal : (earlier : List Step) (generation : _) (gone : List _) (auxiliaries : Auxiliaries) (was is : Option Outcome) → (is ≡ was) ⊎ (is ≡ None)
    → AreCaused earlier auxiliaries was → AreCaused (earlier ++ Renews generation gone ∷ []) auxiliaries is
caused_renewal earlier generation gone auxiliaries was is still causes = record {
  told_so = causes.told_so ∙ sym (in_journal earlier (Renews generation gone));
  runs = told_more nothing_heard earlier (Renews generation gone) causes.runs tt;
  refused = refused_same was is earlier (Renews generation gone) still refl causes.refused;
}

told_by_run : (h : Heard) (earlier : List Step) (step : Step) → h ≡ heard_in (journal_of earlier) → IsToldRun h step → AreToldBehind nothing_heard earlier → AreToldBehind nothing_heard (earlier ++ step ∷ [])
told_by_run h earlier step same told runs = told_more nothing_heard earlier step runs (subst (λ (x : Heard). IsToldRun x step) same told)

-- the run of a child, whose end is noted
pub caused_run : (earlier : List Step) (run : ChildRun) (at : _) (before now : Auxiliaries) (was is : Option Outcome) → IsRunAs (heard_of before) run.kind run → heard_of now ≡ heard_of before → ComesTo run was is
    → AreCaused earlier before was → AreCaused (earlier ++ Runs run at ∷ []) now is
caused_run earlier run at before now was is told heard came causes = record {
  told_so = heard ∙ causes.told_so ∙ sym (in_journal earlier (Runs run at) ∙ heard-append (heard_in (journal_of earlier)) (journal_by (Runs run at)) [] ∙ unheard (heard_in (journal_of earlier)) run.generation run.kept);
  runs = told_by_run (heard_of before) earlier (Runs run at) causes.told_so told causes.runs;
  refused = refused_ran was is earlier (Runs run at) run refl came causes.refused;
}

-- and of one whose end isn't
pub caused_on : (earlier : List Step) (run : ChildRun) (before now : Auxiliaries) (was is : Option Outcome) → IsRunAs (heard_of before) run.kind run → heard_of now ≡ heard_of before → ComesTo run was is
    → AreCaused earlier before was → AreCaused (earlier ++ RunsOn run ∷ []) now is
caused_on earlier run before now was is told heard came causes = record {
  told_so = heard ∙ causes.told_so ∙ sym (in_journal earlier (RunsOn run));
  runs = told_by_run (heard_of before) earlier (RunsOn run) causes.told_so told causes.runs;
  refused = refused_ran was is earlier (RunsOn run) run refl came causes.refused;
}
