-- A step after others: which may follow, and the run of a child.
use Rattle.std.{proofs.{Common.{Option, None, Some, ℕ, ◌≡◌, refl, List, [], ◌∷◌, ◌∙◌, ap, ◌+◌, nat_eq, cond, arith, ◌-◌, ◌⊎◌, inl, inr, ◌++◌, sym, subst}, lemmas.List.Sums.{fold-append, sum_by-append, sum_by-cons}}, specs.{List.AllByRecursion, Prelude.{Bool, true, false, if◌then◌else◌, unwrap_or}}}
use Rattle.pm_server.{specs.{pm_state.{declared.{event.PmEvent.PmEvent, action.Action.Action}, Journal.{all_replayed, replay_begun, lines_of}}, pm_supervisor_journal.{Standing.{Standing, entry_for, redo_entries, exiting, later}, Roll.kind_in, Laws.KeepsALegalJournal, Stands.{Remembers, Stands}}, pm_query.{Book.times_after, declared.book.BookEntry.BookEntry}, pm_segment.Children.{times_behind, once, times_in}, pm_supervisor.{declared.Limits.Limits, Steps.Trace}, Journal.{asked_in, accepted_in}}, proofs.pm_supervisor_journal.RollLaws.on-roll}
use Rattle.pm_server.specs.pm_state.declared.event.PmEvent.TheVariants as entry
use Rattle.pm_supervisor_chain.specs.{Steps.{MayFollow, Notes, Renews, Runs, RunsOn, Step, ChildRun, StandsByItself, IsWorkOf, HasEntered, StaysOutside, leaving, IsThere, TellsRedo, redo_end, IsRunOf, journal_by}, Laws.StepsGoOn}
use Rattle.pm_once_acts.specs.Steps.{IsFree, exit_of}
use Rattle.pm_server.specs.pm_state.declared.action.Action.TheVariants as act
use Rattle.pm_server.specs.pm_query.declared.book.BookEntry.TheVariants as noted

-- ---- which step may follow

pub notes_follow : (e : PmEvent) (last : Option Step) → IsFree last → MayFollow last (Notes e)
notes_follow e None free = tt
notes_follow e (Some (Notes (entry.Started p k))) free = tt
notes_follow e (Some (Notes (entry.Accepted p d))) free = tt
notes_follow e (Some (Notes (entry.Exited p k st w n))) free = tt
notes_follow e (Some (Notes (entry.Asked m n))) free = tt
notes_follow e (Some (Notes (entry.KillAsked p))) free = tt
notes_follow e (Some (Notes (entry.QuitSent why))) free = tt
notes_follow e (Some (Notes entry.TerminateSent)) free = tt
notes_follow e (Some (Notes (entry.KillSent n))) free = tt
notes_follow e (Some (Notes entry.CheckpointAsked)) free = tt
notes_follow e (Some (Notes (entry.RedoEnded g k))) free = tt
notes_follow e (Some (Notes (entry.Ready g))) free = tt
notes_follow e (Some (Notes (entry.Reset g))) free = absurd free
notes_follow e (Some (Notes (entry.Said line))) free = tt
notes_follow e (Some (Notes (entry.Ended how))) free = tt
notes_follow e (Some (Runs other n)) free = tt
notes_follow e (Some (RunsOn other)) free = absurd free
notes_follow e (Some (Renews generation gone)) free = tt

pub run_follows : (run : ChildRun) (at : ℕ) (last : Option Step) → IsFree last → MayFollow last (Runs run at)
run_follows run at None free = tt
run_follows run at (Some (Notes (entry.Started p k))) free = tt
run_follows run at (Some (Notes (entry.Accepted p d))) free = tt
run_follows run at (Some (Notes (entry.Exited p k st w n))) free = tt
run_follows run at (Some (Notes (entry.Asked m n))) free = tt
run_follows run at (Some (Notes (entry.KillAsked p))) free = tt
run_follows run at (Some (Notes (entry.QuitSent why))) free = tt
run_follows run at (Some (Notes entry.TerminateSent)) free = tt
run_follows run at (Some (Notes (entry.KillSent n))) free = tt
run_follows run at (Some (Notes entry.CheckpointAsked)) free = tt
run_follows run at (Some (Notes (entry.RedoEnded g k))) free = tt
run_follows run at (Some (Notes (entry.Ready g))) free = tt
run_follows run at (Some (Notes (entry.Reset g))) free = absurd free
run_follows run at (Some (Notes (entry.Said line))) free = tt
run_follows run at (Some (Notes (entry.Ended how))) free = tt
run_follows run at (Some (Runs other n)) free = tt
run_follows run at (Some (RunsOn other)) free = absurd free
run_follows run at (Some (Renews generation gone)) free = tt

pub runs_on_follows : (run : ChildRun) (last : Option Step) → IsFree last → MayFollow last (RunsOn run)
runs_on_follows run None free = tt
runs_on_follows run (Some (Notes (entry.Started p k))) free = tt
runs_on_follows run (Some (Notes (entry.Accepted p d))) free = tt
runs_on_follows run (Some (Notes (entry.Exited p k st w n))) free = tt
runs_on_follows run (Some (Notes (entry.Asked m n))) free = tt
runs_on_follows run (Some (Notes (entry.KillAsked p))) free = tt
runs_on_follows run (Some (Notes (entry.QuitSent why))) free = tt
runs_on_follows run (Some (Notes entry.TerminateSent)) free = tt
runs_on_follows run (Some (Notes (entry.KillSent n))) free = tt
runs_on_follows run (Some (Notes entry.CheckpointAsked)) free = tt
runs_on_follows run (Some (Notes (entry.RedoEnded g k))) free = tt
runs_on_follows run (Some (Notes (entry.Ready g))) free = tt
runs_on_follows run (Some (Notes (entry.Reset g))) free = absurd free
runs_on_follows run (Some (Notes (entry.Said line))) free = tt
runs_on_follows run (Some (Notes (entry.Ended how))) free = tt
runs_on_follows run (Some (Runs other n)) free = tt
runs_on_follows run (Some (RunsOn other)) free = absurd free
runs_on_follows run (Some (Renews generation gone)) free = tt

pub stands_by_itself : (a : Action) (s : Standing) → StandsByItself (entry_for a s)
stands_by_itself (act.Start k) s = tt
stands_by_itself (act.Quit why) s = tt
stands_by_itself act.Terminate s = tt
stands_by_itself act.KillAll s = tt
stands_by_itself act.AskCheckpoint s = tt
stands_by_itself act.Ready s = tt
stands_by_itself act.Reset s = tt
stands_by_itself (act.Say line) s = tt
stands_by_itself (act.End how) s = tt

-- ---- who is inside

work_stays : (run : ChildRun) (who times : ℕ) (e : BookEntry) → IsWorkOf run e → times_after who times e ≡ times
work_stays run who times (noted.Opened generation) work = absurd work
work_stays run who times (noted.Attached p generation) work = absurd work
work_stays run who times (noted.Redone p generation kept) work = refl
work_stays run who times (noted.Answered p script reply commit front tick) work = refl
work_stays run who times (noted.Released p front tick) work = refl
work_stays run who times (noted.Detached p) work = absurd work
work_stays run who times (noted.Gone p) work = absurd work
work_stays run who times (noted.CheckpointEnded p done clean) work = refl
work_stays run who times (noted.Broke p since faults) work = refl
work_stays run who times (noted.LogFull p script need room) work = refl

all_stay : (run : ChildRun) (who times : ℕ) (work : List BookEntry) → AllByRecursion (IsWorkOf run) work → times_behind work who times ≡ times
all_stay run who times [] all = refl
all_stay run who times (e ∷ work) all = ap (λ (n : ℕ). times_behind work who n) (work_stays run who times e all.0) ∙ all_stay run who times work all.1

-- how many more are inside
abbrev pub more_inside : Bool → ℕ → ℕ → ℕ
more_inside true who pid = once who pid
more_inside false who pid = 0

came : (who pid times : ℕ) → cond (nat_eq who pid) (times + 1) times ≡ times + once who pid
came who pid times = elim (nat_eq who pid) as (λ (b : Bool). cond b (times + 1) times ≡ times + cond b 1 0) [ true ↦ refl | false ↦ omega arith ]

went : (who pid times : ℕ) → cond (nat_eq who pid) ((times + once who pid) - 1) (times + once who pid) ≡ times
went who pid times = elim (nat_eq who pid) as (λ (b : Bool). cond b ((times + cond b 1 0) - 1) (times + cond b 1 0) ≡ times) [ true ↦ omega arith | false ↦ omega arith ]

left_so : (run : ChildRun) (active : Bool) (who times : ℕ) → times_behind (if active then [] else noted.Detached run.pid ∷ []) who (times + once who run.pid) ≡ times + more_inside active who run.pid
left_so run true who times = refl
left_so run false who times = went who run.pid times ∙ omega arith

pub run_inside : (run : ChildRun) (who times : ℕ) → StaysOutside run ⊎ HasEntered run → times_behind run.noted who times ≡ times + more_inside run.was_active who run.pid
run_inside run who times (inl outside) = ap (λ (l : List BookEntry). times_behind l who times) outside.noted ∙ subst (λ (b : Bool). times ≡ times + more_inside b who run.pid) (sym outside.inactive) (omega arith)
run_inside run who times (inr entered) =
    ap (λ (l : List BookEntry). times_behind l who times) entered.noted
    ∙ ap (λ (n : ℕ). times_behind (entered.work ++ leaving run) who n) (came who run.pid times)
    ∙ fold-append (times_after who) (times + once who run.pid) entered.work (leaving run)
    ∙ ap (λ (n : ℕ). times_behind (leaving run) who n) (all_stay run who (times + once who run.pid) entered.work entered.of_it)
    ∙ left_so run run.was_active who times

-- and among those that are lost
pub lost_more : (active : Bool) (who pid : ℕ) (lost : List ℕ) → times_in who (if active then lost ++ pid ∷ [] else lost) ≡ times_in who lost + more_inside active who pid
lost_more true who pid lost = sum_by-append (once who) lost (pid ∷ []) ∙ ap (λ (n : ℕ). times_in who lost + n) (sum_by-cons (once who) pid [] ∙ omega arith)
lost_more false who pid lost = omega arith

-- ---- the child is there

pub there_in : StepsGoOn → KeepsALegalJournal → (limits : Limits) (journal : List PmEvent) (s : Standing) (h : Trace) (run : ChildRun) → Stands limits (Some journal) s h → s.due ≡ []
    → kind_in run.pid s.children ≡ Some run.kind → run.generation ≡ s.generation → IsThere (all_replayed (replay_begun limits) journal) run
there_in goes legal limits journal s h run stands none there generation =
    let same : stands.journal ≡ journal = sym stands.told_is in
    let remembers : Remembers s (all_replayed (replay_begun limits) journal) = subst (λ (j : List PmEvent). Remembers s (all_replayed (replay_begun limits) j)) same stands.remembers in
    goes.there limits (record { replay = all_replayed (replay_begun limits) journal; machine = s.machine; trace = h }) run (legal.in_step limits journal s h stands none)
    (on-roll run.pid run.kind _ (ap (kind_in run.pid) (sym remembers.children) ∙ there))
    (generation ∙ remembers.generation)

-- ---- what its end notes

redo_same : (kept : Option ℕ) (run : ChildRun) (s : Standing) → run.kept ≡ kept → TellsRedo run kept → run.generation ≡ s.generation → redo_entries (exit_of run) s ≡ redo_end run.generation kept
redo_same None run s is tells generation =
    ap (λ (b : Bool). (if b then entry.RedoEnded s.generation (unwrap_or run.kept 0) ∷ [] else [])) tells
redo_same (Some kept) run s is tells generation =
    ap (λ (b : Bool). (if b then entry.RedoEnded s.generation (unwrap_or run.kept 0) ∷ [] else [])) tells.0
    ∙ ap (λ (k : Option ℕ). entry.RedoEnded s.generation (unwrap_or k 0) ∷ []) is ∙ ap (λ (g : ℕ). entry.RedoEnded g kept ∷ []) (sym generation)

pub exit_entries : (run : ChildRun) (at : ℕ) (s : Standing) → IsRunOf run → run.generation ≡ s.generation → (exiting (exit_of run) at s).entries ≡ journal_by (Runs run (later at s))
exit_entries run at s is generation = ap (λ (l : List PmEvent). entry.Exited run.pid run.kind run.status run.was_active (later at s) ∷ l) (redo_same run.kept run s refl is.redo generation)

pub no_lines : (kept : Option ℕ) (g : ℕ) → lines_of (redo_end g kept) ≡ []
no_lines None g = refl
no_lines (Some k) g = refl

pub no_asks : (kept : Option ℕ) (g : ℕ) → asked_in (redo_end g kept) ≡ []
no_asks None g = refl
no_asks (Some k) g = refl

pub no_accepts : (kept : Option ℕ) (g : ℕ) → accepted_in (redo_end g kept) ≡ []
no_accepts None g = refl
no_accepts (Some k) g = refl
