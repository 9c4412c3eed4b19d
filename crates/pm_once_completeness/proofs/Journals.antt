-- A whole journal: no child crashes, but for one that left its work undone.
use Rattle.std.{proofs.{Common.{◌≡◌, ◌⊎◌, inl, inr, ℕ, ◌+◌, Bool, true, false, not, ◌&&◌, ◌||◌, List, [], ◌∷◌, ◌++◌, Option, Some, None, refl, sym, ◌∙◌, ap, subst, arith}, lemmas.{Bool.{both_ways, or_cases}, Grind.flat_map-append, List.Elements.{All-head, All-tail}}}, specs.{Prelude.{IsSomeAnd, All, fold, is_some}, List.AllByRecursion}}
use Rattle.pm_once.specs.{pm_facts.Lists.each_last, pm_supervisor_chain.Steps.{AreSteps, AreStepsBehind, ChildRun, Notes, Renews, Runs, RunsOn, StandsByItself, Step, journal_by, journal_of, redo_end}, pm_supervisor_journal.Stands.any_moment, pm_server.Journal.asked_in, pm_once_children.{AuxiliaryRuns.{AreToldBehind, Heard, IsRunAs, heard_after, nothing_heard}, Calm.{EndThemselves, EndsItself, IsFineExit}}, pm_once_acts.Steps.EndsWith}
use Rattle.pm_state.{specs.{pm_exit.{declared.child.{Kind.Kind, Status.Status}, Ends.{is_exit_0, is_exit_1}}, pm_modes.declared.Mode.{Mode, TheVariants.Smart}, pm_supervisor.{Children.{child_of, count_of, is_checkpointer, is_session, is_startup_child, is_writer}, declared.Limits.Limits}, declared.{action.Action.Action, event.PmEvent.PmEvent, machine.Machine.Machine}, Laws.RestartsSafely, Restarts.Counts, Machine.{Exited, begun, step}, TurnRules.is_not_running, Journal.{AreLegal, Due, IsLegal, Replay, replay_begun, replayed}}, proofs.ReplayLaws.{AreCounted, acts_behind_redo, acts_in, are_counted, ends_in, rested, startup_there, there_counts, was_there}}
use Rattle.pm_state.specs.pm_exit.declared.child.Kind.TheVariants as kind
use Rattle.pm_state.specs.pm_supervisor.declared.Ending.TheVariants as endings
use Rattle.pm_state.specs.declared.event.PmEvent.TheVariants as entry
use Rattle.pm_once.proofs.pm_server.CalmLaws as machine
use Rattle.pm_once_completeness.{specs.Crashes.{AreOrderly, AreOrderlySoFar, CompletesItsRuns, IsBehindUndone, is_undone}, proofs.{Replaying.{IsPlain, entry_on}, Crashing.{EndsCalm, IsCalmSo, IsLost, IsAlwaysOrderly, checkpointer_calm, checkpointer_lost, keeps_calm, keeps_lost, nobody_left, session_calm, startup_calm, startup_lost, writer_calm}}}

-- ---- requests

abbrev AreSmart : List PmEvent → Type 0
AreSmart journal = All (λ mode. mode ≡ Smart) (asked_in journal)

-- the others were smart ones too
smart_rest : (e : PmEvent) (journal : List PmEvent) → AreSmart (e ∷ journal) → AreSmart journal
smart_rest (entry.Asked mode at) journal smart = All-tail (λ (m : Mode). m ≡ Smart) mode (asked_in journal) smart
smart_rest e journal smart = smart

smart_redo : (generation : ℕ) (kept : Option ℕ) (journal : List PmEvent) → AreSmart (redo_end generation kept ++ journal) → AreSmart journal
smart_redo generation None journal smart = smart
smart_redo generation (Some kept) journal smart = smart

by_itself_plain : (e : PmEvent) (journal : List PmEvent) → StandsByItself e → AreSmart (e ∷ journal) → IsPlain e
by_itself_plain (entry.Exited pid k status was_active at) journal stands smart = absurd stands
by_itself_plain (entry.Asked mode at) journal stands smart = All-head (λ (m : Mode). m ≡ Smart) mode (asked_in journal) smart
by_itself_plain e journal stands smart = tt

-- ---- the end of a child

itself : (h : Heard) (run : ChildRun) (at : ℕ) → h.quit ≡ false → EndsItself h (Runs run at) → IsFineExit run
itself h run at unquit (inl fine) = fine
itself h run at unquit (inr quit) = absurd (both_ways h.quit unquit quit.0)

by_itself : (a b c : Bool) → ((a || b) && not c) ≡ true → a || b ≡ true
by_itself a b c is = grind arith

done_or : (zero one asked : Bool) → zero || one ≡ true → (zero || asked ≡ true) ⊎ ((one ≡ true) × (asked ≡ false))
done_or true one asked is = inl refl
done_or false one true is = inl refl
done_or false one false is = inr (is, refl)

-- ---- after a child that left its work undone

-- no child is left that can end
none_ends : (gives : ℕ → Bool) (h : Heard) (r : Replay) (run : ChildRun) (at : ℕ) (k : Kind) → IsRunAs h k run → IsSomeAnd (child_of run.pid r.shown.children) (λ c. c.kind ≡ k)
    → Counts r.machine r.shown.children → r.machine.ended ≡ false → IsLost h [] r.machine → ⊥
none_ends gives h r run at kind.Startup told there counts on lost =
    let was = startup_there (count_of is_startup_child r.shown.children) (is_not_running r.machine.startup) r.machine.startup_due (there_counts is_startup_child run.pid kind.Startup r.shown.children there refl) counts.startup in
    both_ways (is_not_running r.machine.startup) was (nobody_left h r.machine on lost).1
none_ends gives h r run at kind.Checkpointer told there counts on lost =
    both_ways r.machine.checkpointer (nobody_left h r.machine on lost).2
    (was_there (count_of is_checkpointer r.shown.children) r.machine.checkpointer (there_counts is_checkpointer run.pid kind.Checkpointer r.shown.children there refl) counts.checkpointer)
none_ends gives h r run at kind.Writer told there counts on lost =
    both_ways r.machine.writer (nobody_left h r.machine on lost).3
    (was_there (count_of is_writer r.shown.children) r.machine.writer (there_counts is_writer run.pid kind.Writer r.shown.children there refl) counts.writer)
none_ends gives h r run at kind.Worker told there counts on lost = told
none_ends gives h r run at kind.Backend told there counts on lost =
    omega (arith, there_counts is_session run.pid kind.Backend r.shown.children there refl, counts.sessions, (nobody_left h r.machine on lost).0)
none_ends gives h r run at kind.DeadEnd told there counts on lost = told

lost_on : (limits : Limits) (gives : ℕ → Bool) (before steps : List Step) (h : Heard) (r : Replay) → AreLegal gives r (journal_of steps) → AreStepsBehind limits before steps
    → AreSmart (journal_of steps) → AreToldBehind h steps → AreCounted r (journal_of steps) → IsLost h (acts_in r.due) r.machine
    → AllByRecursion IsBehindUndone (journal_of steps)
lost_on limits gives before [] h r legal are smart told counted lost = tt
lost_on limits gives before (Notes e ∷ steps) h r legal are smart told counted lost =
    let on = entry_on IsLost IsBehindUndone keeps_lost gives h r e legal.0 (by_itself_plain e (journal_of steps) are.0.fits smart) lost in
    (on.0, lost_on limits gives (before ++ Notes e ∷ []) steps (heard_after h e) (replayed r e) legal.1 are.1 (smart_rest e (journal_of steps) smart) told.1 counted.1 on.1)
lost_on limits gives before (Runs run at ∷ steps) h r legal are smart told counted lost =
    let its = ends_in gives r r.due run.pid run.kind run.status run.was_active at refl legal.0 in
    absurd (none_ends gives h r run at run.kind told.0 its.there counted.0 its.goes_on
    (subst (λ (ds : List Due). IsLost h (acts_in ds) r.machine) its.rests lost))
lost_on limits gives before (RunsOn run ∷ steps) h r legal are smart told counted lost =
    lost_on limits gives (before ++ RunsOn run ∷ []) steps h r legal are.1 smart told.1 counted lost
lost_on limits gives before (Renews generation gone ∷ steps) h r legal are smart told counted lost =
    lost_on limits gives (before ++ Renews generation gone ∷ []) steps h r legal are.1 smart told.1 counted lost

-- ---- the end of a child that isn't

-- it is an orderly one, or its work is undone
abbrev HasEnded : Heard → Kind → Machine → (pid : ℕ) → Status → (at : ℕ) → Bool → Type 0
HasEnded h k m pid status at was_active =
    ((is_undone (entry.Exited pid k status was_active at) ≡ true) × IsLost h (step m (Exited pid k status was_active at)).acts (step m (Exited pid k status was_active at)).after)
    ⊎ EndsCalm h k m pid status at was_active

run_ended : (h : Heard) (k : Kind) (run : ChildRun) (r : Replay) (at : ℕ) → run.kind ≡ k → IsRunAs h k run → IsFineExit run → Counts r.machine r.shown.children
    → IsSomeAnd (child_of run.pid r.shown.children) (λ c. c.kind ≡ k) → IsCalmSo h [] r.machine
    → HasEnded h k r.machine run.pid run.status at run.was_active
run_ended h kind.Startup run r at is told fine counts there calm =
    let was = startup_there (count_of is_startup_child r.shown.children) (is_not_running r.machine.startup) r.machine.startup_due (there_counts is_startup_child run.pid kind.Startup r.shown.children there refl) counts.startup in
    let ends = by_itself (is_exit_0 run.status) (is_exit_1 run.status) run.was_active fine in
    elim (done_or (is_exit_0 run.status) (is_exit_1 run.status) (is_some r.machine.shutdown) ends) [
      | inl done ↦ inr (startup_calm h r.machine run.pid run.status at run.was_active calm was ends done)
      | inr undone ↦ inl (undone.0, startup_lost h r.machine run.pid run.status at run.was_active calm was undone.0 undone.1)
    ]
run_ended h kind.Checkpointer run r at is (inl quit) fine counts there calm = absurd (both_ways h.quit calm.unquit quit.0)
run_ended h kind.Checkpointer run r at is (inr closes) fine counts there calm =
    elim (or_cases (is_exit_0 run.status) (is_exit_1 run.status) (by_itself (is_exit_0 run.status) (is_exit_1 run.status) run.was_active fine)) [
      | inl zero ↦ inr (checkpointer_calm h r.machine run.pid run.status at run.was_active calm closes.1
          (was_there (count_of is_checkpointer r.shown.children) r.machine.checkpointer (there_counts is_checkpointer run.pid kind.Checkpointer r.shown.children there refl) counts.checkpointer) zero)
      | inr one ↦ inl (
        one,
        checkpointer_lost h r.machine run.pid run.status at run.was_active calm closes.1
            (was_there (count_of is_checkpointer r.shown.children) r.machine.checkpointer (there_counts is_checkpointer run.pid kind.Checkpointer r.shown.children there refl) counts.checkpointer) one,
      )
    ]
run_ended h kind.Writer run r at is (inl quit) fine counts there calm = absurd (both_ways h.quit calm.unquit quit.0)
run_ended h kind.Writer run r at is (inr ends) fine counts there calm = inr (writer_calm h r.machine run.pid run.status at run.was_active calm (ap (λ (x : ChildRun). is_exit_0 x.status) ends.2))
run_ended h kind.Worker run r at is told fine counts there calm = absurd told
run_ended h kind.Backend run r at is told fine counts there calm = inr (session_calm h r.machine run.pid run.status at run.was_active calm fine)
run_ended h kind.DeadEnd run r at is told fine counts there calm = absurd told

-- ---- the whole

heard_redo : (h : Heard) (generation : ℕ) (kept : Option ℕ) → fold heard_after h (redo_end generation kept) ≡ h
heard_redo h generation None = refl
heard_redo h generation (Some kept) = refl

-- after the end of a child that ended redo
redo_on : (gives : ℕ → Bool) (h : Heard) (r : Replay) (generation : ℕ) (kept : Option ℕ) (journal : List PmEvent)
    → ((next : Replay) → AreLegal gives next journal → AreCounted next journal → IsCalmSo h (acts_in next.due) next.machine → AreOrderlySoFar next journal)
    → AreLegal gives r (redo_end generation kept ++ journal) → AreCounted r (redo_end generation kept ++ journal) → IsCalmSo h (acts_in r.due) r.machine
    → AreOrderlySoFar r (redo_end generation kept ++ journal)
redo_on gives h r generation None journal on legal counted calm = on r legal counted calm
redo_on gives h r generation (Some kept) journal on legal counted calm =
    let redone = entry_on IsCalmSo IsAlwaysOrderly keeps_calm gives h r (entry.RedoEnded generation kept) legal.0 tt calm in
    inr (tt, on (replayed r (entry.RedoEnded generation kept)) legal.1 counted.1 redone.1)

redo_lost : (gives : ℕ → Bool) (h : Heard) (r : Replay) (generation : ℕ) (kept : Option ℕ) (journal : List PmEvent)
    → ((next : Replay) → AreLegal gives next journal → AreCounted next journal → IsLost h (acts_in next.due) next.machine → AllByRecursion IsBehindUndone journal)
    → AreLegal gives r (redo_end generation kept ++ journal) → AreCounted r (redo_end generation kept ++ journal) → IsLost h (acts_in r.due) r.machine
    → AllByRecursion IsBehindUndone (redo_end generation kept ++ journal)
redo_lost gives h r generation None journal on legal counted lost = on r legal counted lost
redo_lost gives h r generation (Some kept) journal on legal counted lost =
    let redone = entry_on IsLost IsBehindUndone keeps_lost gives h r (entry.RedoEnded generation kept) legal.0 tt lost in
    (tt, on (replayed r (entry.RedoEnded generation kept)) legal.1 counted.1 redone.1)

-- the end of a child, and what is after it
run_on : (gives : ℕ → Bool) (h : Heard) (r : Replay) (run : ChildRun) (at : ℕ) (journal : List PmEvent)
    → ((next : Replay) → AreLegal gives next journal → AreCounted next journal → IsCalmSo h (acts_in next.due) next.machine → AreOrderlySoFar next journal)
    → ((next : Replay) → AreLegal gives next journal → AreCounted next journal → IsLost h (acts_in next.due) next.machine → AllByRecursion IsBehindUndone journal)
    → AreLegal gives r (journal_by (Runs run at) ++ journal) → AreCounted r (journal_by (Runs run at) ++ journal)
    → IsRunAs h run.kind run → IsFineExit run → IsCalmSo h (acts_in r.due) r.machine → AreOrderlySoFar r (journal_by (Runs run at) ++ journal)
run_on gives h r run at journal on behind legal counted told fine calm =
    let e : PmEvent = entry.Exited run.pid run.kind run.status run.was_active at in
    let its = ends_in gives r r.due run.pid run.kind run.status run.was_active at refl legal.0 in
    let rests : IsCalmSo h [] r.machine = subst (λ (ds : List Due). IsCalmSo h (acts_in ds) r.machine) its.rests calm in
    let acts : List Action = (step r.machine (Exited run.pid run.kind run.status run.was_active at)).acts in
    let dues = acts_behind_redo (is_startup_child run.kind && is_exit_0 run.status) acts in
    elim (run_ended h run.kind run r at refl told fine counted.0 its.there rests) [
      | inl undone ↦ inl (
        undone.0,
        redo_lost gives h (replayed r e) run.generation run.kept journal behind legal.1 counted.1 (rested Heard heard_after IsLost IsBehindUndone keeps_lost.due h r e acts its.rests dues undone.1),
      )
      | inr ended ↦ inr (
        ended.orderly,
        redo_on gives h (replayed r e) run.generation run.kept journal on legal.1 counted.1 (rested Heard heard_after IsCalmSo IsAlwaysOrderly keeps_calm.due h r e acts its.rests dues ended.calm),
      )
    ]

orderly_on : (limits : Limits) (gives : ℕ → Bool) (before steps : List Step) (h : Heard) (r : Replay) → AreLegal gives r (journal_of steps) → AreStepsBehind limits before steps
    → AreSmart (journal_of steps) → AreToldBehind h steps → EndThemselves h steps → AreCounted r (journal_of steps) → IsCalmSo h (acts_in r.due) r.machine
    → AreOrderlySoFar r (journal_of steps)
orderly_on limits gives before [] h r legal are smart told ends counted calm = tt
orderly_on limits gives before (Notes e ∷ steps) h r legal are smart told ends counted calm =
    let on = entry_on IsCalmSo IsAlwaysOrderly keeps_calm gives h r e legal.0 (by_itself_plain e (journal_of steps) are.0.fits smart) calm in
    inr (on.0 r.machine, orderly_on limits gives (before ++ Notes e ∷ []) steps (heard_after h e) (replayed r e) legal.1 are.1 (smart_rest e (journal_of steps) smart) told.1 ends.1 counted.1 on.1)
orderly_on limits gives before (Runs run at ∷ steps) h r legal are smart told ends counted calm =
    let same = heard_redo h run.generation run.kept in
    let told_on : AreToldBehind h steps = subst (λ (x : Heard). AreToldBehind x steps) same told.1 in
    let ends_on : EndThemselves h steps = subst (λ (x : Heard). EndThemselves x steps) same ends.1 in
    let smart_on : AreSmart (journal_of steps) = smart_redo run.generation run.kept (journal_of steps) smart in
    run_on gives h r run at (journal_of steps)
    (λ next legal_on counted_on calm_on. orderly_on limits gives (before ++ Runs run at ∷ []) steps h next legal_on are.1 smart_on told_on ends_on counted_on calm_on)
    (λ next legal_on counted_on lost_on_. lost_on limits gives (before ++ Runs run at ∷ []) steps h next legal_on are.1 smart_on told_on counted_on lost_on_)
    legal counted told.0 (itself h run at calm.unquit ends.0) calm
orderly_on limits gives before (RunsOn run ∷ steps) h r legal are smart told ends counted calm =
    orderly_on limits gives (before ++ RunsOn run ∷ []) steps h r legal are.1 smart told.1 ends.1 counted calm
orderly_on limits gives before (Renews generation gone ∷ steps) h r legal are smart told ends counted calm =
    orderly_on limits gives (before ++ Renews generation gone ∷ []) steps h r legal are.1 smart told.1 ends.1 counted calm

begun_calm : (limits : Limits) → IsCalmSo nothing_heard [] (begun limits)
begun_calm limits = record { calm = machine.begun_calm limits; unquit = refl; not_told = refl; starting = refl; no_quit = refl }

pub orderly_so_far : RestartsSafely → (limits : Limits) (gives : ℕ → Bool) (steps : List Step) → IsLegal limits gives (journal_of steps) → AreSteps limits steps
    → AreSmart (journal_of steps) → AreToldBehind nothing_heard steps → EndThemselves nothing_heard steps → AreOrderlySoFar (replay_begun limits) (journal_of steps)
orderly_so_far safely limits gives steps legal are smart told ends =
    orderly_on limits gives [] steps nothing_heard (replay_begun limits) legal are smart told ends (are_counted safely limits gives [] (journal_of steps) legal) (begun_calm limits)

-- where the server ended clean no child left its work undone
clean_orderly : (r : Replay) (journal : List PmEvent) → AreOrderlySoFar r (journal ++ entry.Ended endings.Clean ∷ []) → AreOrderly r (journal ++ entry.Ended endings.Clean ∷ [])
clean_orderly r [] (inl undone) = absurd (let never : false ≡ true = undone.0 in cc)
clean_orderly r [] (inr orderly) = orderly
clean_orderly r (e ∷ journal) (inl undone) = absurd (each_last IsBehindUndone journal (entry.Ended endings.Clean) undone.1)
clean_orderly r (e ∷ journal) (inr orderly) = (orderly.0, clean_orderly (replayed r e) journal orderly.1)

pub ends_orderly : (r : Replay) (steps : List Step) → EndsWith (entry.Ended endings.Clean) steps → AreOrderlySoFar r (journal_of steps) → AreOrderly r (journal_of steps)
ends_orderly r steps ends so_far =
    let is : journal_of steps ≡ journal_of ends.0 ++ entry.Ended endings.Clean ∷ [] = ap journal_of ends.1 ∙ flat_map-append journal_by ends.0 (Notes (entry.Ended endings.Clean) ∷ []) in
    subst (AreOrderly r) (sym is) (clean_orderly r (journal_of ends.0) (subst (AreOrderlySoFar r) is so_far))

pub completes : RestartsSafely → CompletesItsRuns
completes safely = record {
  orderly = λ limits steps unharmed. orderly_so_far safely limits any_moment steps unharmed.legal unharmed.are_steps unharmed.smart unharmed.runs unharmed.ends;
  clean = λ limits steps unharmed ends.
      ends_orderly (replay_begun limits) steps ends (orderly_so_far safely limits any_moment steps unharmed.legal unharmed.are_steps unharmed.smart unharmed.runs unharmed.ends);
}
