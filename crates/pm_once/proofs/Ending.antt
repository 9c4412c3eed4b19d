-- A child has run: its end is noted, or memory is short for that. And a connection is accepted.
use Rattle.std.{proofs.Common.{◌≡◌, ◌⊎◌, inl, ℕ, ◌+◌, ◌≤◌, List, [], ◌∷◌, ◌++◌, length, Option, None, Some, refl, sym, ◌∙◌, ap, subst, append-nil, eq-eqb}, specs.{Prelude.{Bool, true, false, if◌then◌else◌, is_some, IfSome, unwrap_or}, List.last_or}}
use Rattle.pm_server.{specs.{pm_exit.declared.child.{Kind.Kind, Status.Status}, pm_modes.declared.Mode.Mode, pm_supervisor.{Children.one_if, Steps.kind_for}, pm_state.{declared.event.PmEvent.PmEvent, Journal.acts_of_call, Shows.machine_after}, pm_query.declared.book.BookEntry.BookEntry, pm_segment.{Children.times_in, Moves.{Moves, StaysUnread, Spans}, MovesLaws.{moves_none, moves_on, spans_none}}, Journal.{IsMoment, asked_in}}, proofs.JournalLaws.asked_in-append}
use Rattle.pm_server.specs.pm_exit.declared.child.Kind.TheVariants as kind
use Rattle.pm_supervisor_journal.{specs.{Moments.AreGiven, Laws.{GoesOnOverItsJournal, KeepsALegalJournal}, Roll.{kind_in, without}, declared.exit.ChildExit.ChildExit, Standing.{IsAtRest, MayTake, Standing, accepting, all_noted, called, decision_on, exit_call, exit_entry, exiting, later, made, next_pid, ends_redo}, Stands.{AtWork, IsSettled, Stands, behind}, Due.{AreOurs, IsIdle, is_last_drawn}}, proofs.{ToldLaws.told_more, RulesLaws.exit_ours}}
use Rattle.pm_server.specs.pm_state.declared.event.PmEvent.TheVariants as entry
use Rattle.pm_once_acts.{specs.{pm_supervisor_chain.{Laws.StepsGoOn, Steps.{ChildRun, Notes, Step, Runs, RunsOn, redo_end, journal_by, journal_of}}, Steps.{exit_of, IsFree}, Acts.AsksAsDue}, proofs.{ActsLaws.asks_drawn, RunsLaws.{notes_follow, run_follows, runs_on_follows, exit_entries, lost_more, more_inside, no_asks, no_lines, run_inside, there_in}}}
use Rattle.pm_outside.{specs.Added.Added, proofs.AddedLaws.added_none}
use Rattle.pm_once_children.{specs.{Outcomes.ComesTo, Auxiliaries.{AreThere, HasLess, heard_of}, declared.{outcome.Outcome.Outcome, auxiliaries.Auxiliaries.Auxiliaries}}, proofs.{CausesLaws.{caused_entry, caused_on, caused_run}, AuxiliariesLaws.{auxiliaries_without, off_startup, auxiliaries_beside}, CalmLaws.goes_on_so}}
use Rattle.pm_once.{specs.{Calls.{HasRun, NotesExit, NotesNoExit}, Goes.{Goes, IsRunning, StaysOpen}, View.View}, proofs.{Calling.{as_last, later_moment}, Undisturbed.{GoesOnDisk, ran_disturbed, ran_on_disturbed, taken_disturbed}, Knowing.known_still}}
use Rattle.pm_server_lines.{specs.Log.{HasSaid, LogView}, proofs.LogLaws.said_same}

-- what the end of a child leaves
record HasExited (exit : ChildExit) (at : ℕ) (s t : Standing) : Type 0 where
  children : t.children ≡ without exit.pid s.children
  last_pid : t.last_pid ≡ s.last_pid
  generation : t.generation ≡ s.generation
  owes : t.owes_smart ≡ s.owes_smart
  moment : t.moment ≡ later at s
  due : t.due ≡ acts_of_call s.machine (exit_call exit (later at s))
  machine : t.machine ≡ machine_after s.machine (exit_call exit (later at s))
  ended : t.ended ≡ s.ended

exited_so : (b : Bool) (kept : ℕ) (exit : ChildExit) (at : ℕ) (s : Standing)
    → HasExited exit at s (all_noted (exit_entry exit (later at s) ∷ (if b then entry.RedoEnded s.generation kept ∷ [] else [])) (called (exit_call exit (later at s)) s))
exited_so true kept exit at s = record { children = refl; last_pid = refl; generation = refl; owes = refl; moment = refl; due = refl; machine = refl; ended = refl }
exited_so false kept exit at s = record { children = refl; last_pid = refl; generation = refl; owes = refl; moment = refl; due = refl; machine = refl; ended = refl }

-- the end of a child is noted
pub record IsNoted (gives : ℕ → Type 0) (run : ChildRun) (at : ℕ) (before now : View) : Type 0 where
  pub goes : Goes gives (Runs run (later at before.work.standing) ∷ []) before now
  pub stays : StaysOpen (Runs run (later at before.work.standing) ∷ []) before now
  pub ended : now.work.standing.ended ≡ before.work.standing.ended
  pub listens : now.listens ≡ before.listens
  pub last_pid : now.work.standing.last_pid ≡ before.work.standing.last_pid

abbrev FewAt : List Mode → Bool → Bool → ℕ → Type 0
FewAt asked listens owes last = length asked + one_if owes + one_if listens ≤ 1 + one_if (is_last_drawn last)

abbrev ends_it : ChildRun → Bool
ends_it run = ends_redo (exit_of run)

abbrev unwrap_kept : ChildRun → ℕ
unwrap_kept run = unwrap_or run.kept 0

same_owes : (asked : List Mode) (listens : Bool) (s t : Standing) → t.last_pid ≡ s.last_pid → t.owes_smart ≡ s.owes_smart → AsksAsDue asked listens s → AsksAsDue asked listens t
same_owes asked listens s t pid owes asks = record {
  smart = asks.smart;
  few = subst (λ (o : Bool). FewAt asked listens o t.last_pid) (sym owes) (subst (λ (p : ℕ). FewAt asked listens s.owes_smart p) (sym pid) asks.few);
}

times_of : (gives : ℕ → Type 0) (before at p : ℕ) (k : Kind) (st : Status) (a : Bool) (kept : Option ℕ) (g : ℕ) → IsMoment gives before at → AreGiven (IsMoment gives before) ((entry.Exited p k st a at ∷ redo_end g kept) ++ [])
times_of gives before at p k st a None g moment = (moment, tt)
times_of gives before at p k st a (Some n) g moment = (moment, (tt, tt))

moved_on : (from : ℕ) (run : ChildRun) (before now : View) → Moves run.noted before.store now.store → GoesOnDisk from before now
moved_on from run before now moves = record { later = moves.spans.later; counts = λ counted. (moves.spans.counts from counted).counted }

came_on : (run : ChildRun) (before mid now : Option Outcome) → now ≡ mid → ComesTo run before mid → ComesTo run before now
came_on run before mid now same came = subst (λ (o : Option Outcome). ComesTo run before o) (sym same) came

pub ran_noted : StepsGoOn → GoesOnOverItsJournal → KeepsALegalJournal → (gives : ℕ → Type 0) (run : ChildRun) (at : ℕ) (before mid now : View) → IsRunning before → IsIdle before.work.standing
    → (run.kind ≡ kind.Startup → before.auxiliaries.startup ≡ None → ⊥) → HasRun run before mid → NotesExit gives (exit_of run) at mid now → IsNoted gives run at before now
ran_noted goes work legal gives run at before mid now running idle had ran noted =
    let s = before.work.standing in
    let exit = exit_of run in
    let when : ℕ = later at s in
    let step : Step = Runs run when in
    let standing : now.work.standing ≡ made (exiting exit at s) s = subst (λ (w : AtWork). now.work.standing ≡ made (exiting exit at w.standing) w.standing) ran.work noted.standing in
    let left : HasExited exit at s (made (exiting exit at s) s) = exited_so (ends_it run) (unwrap_kept run) exit at s in
    let generation : run.generation ≡ s.generation = ran.generation ∙ running.3.same in
    let es : (exiting exit at s).entries ≡ journal_by step = exit_entries run at s ran.is_run generation in
    let told : Added (journal_by step) before.work.told now.work.told =
    subst (λ (l : List PmEvent). Added l before.work.told now.work.told) es (subst (λ (w : AtWork). Added (exiting exit at w.standing).entries w.told now.work.told) ran.work noted.told) in
    let moment : IsMoment gives s.moment when = later_moment gives at s.moment noted.given in
    let store : Moves run.noted before.store now.store = subst (λ (l : List BookEntry). Moves l before.store now.store) (append-nil run.noted) (moves_on run.noted [] before.store mid.store now.store ran.store noted.store.moves) in
    let lost : now.lost ≡ (if run.was_active then before.lost ++ run.pid ∷ [] else before.lost) = noted.lost ∙ ap (λ (l : List ℕ). if run.was_active then l ++ run.pid ∷ [] else l) ran.lost in
    let log : now.log ≡ before.log = noted.log ∙ ran.log in
    let listens : now.listens ≡ before.listens = noted.listens ∙ ran.listens in
    record {
      goes = record {
        at = λ outset earlier is opened.
            let j : journal_of earlier ++ journal_by step ≡ journal_of (earlier ++ step ∷ []) = sym (goes.journal earlier step) in
            let stood = work.exits outset.limits (journal_of earlier) s is.past exit at is.stands idle.rests idle.unowed ran.there in
            record {
              past = behind s.machine (exiting exit at s).call is.past;
              stands = subst (λ (t : Standing). Stands outset.limits (Some (journal_of (earlier ++ step ∷ []))) t (behind s.machine (exiting exit at s).call is.past)) (sym standing)
                  (subst (λ (l : List PmEvent). Stands outset.limits (Some l) (made (exiting exit at s) s) (behind s.machine (exiting exit at s).call is.past)) (ap (λ (l : List PmEvent). journal_of earlier ++ l) es ∙ j) stood);
              told = subst (λ (l : List PmEvent). IfSome now.work.told (λ x. x ≡ l)) j (told_more before.work.told now.work.told (journal_of earlier) (journal_by step) is.told told);
              are_steps = goes.step outset.limits earlier step is.are_steps (record {
                follows = run_follows run when (last_or None earlier) opened.free;
                fits = (there_in goes legal outset.limits (journal_of earlier) s is.past run is.stands idle.rests.none_due ran.there generation, ran.is_run);
              });
              lost_is = lost ∙ ap (λ (l : List ℕ). if run.was_active then l ++ run.pid ∷ [] else l) is.lost_is ∙ sym (goes.lost earlier step);
              said = subst (λ (l : List PmEvent). HasSaid l outset.log now.log) j (subst (λ (x : LogView). HasSaid (journal_of earlier ++ journal_by step) outset.log x) (sym log)
                  (said_same (journal_of earlier) (journal_by step) outset.log before.log (no_lines run.kept run.generation) is.said));
              auxiliaries = subst (λ (t : Standing). AreThere now.auxiliaries t) (sym standing) (subst (λ (h : Auxiliaries). AreThere h (made (exiting exit at s) s)) (sym noted.auxiliaries)
                  (auxiliaries_without run.kind run.pid mid.auxiliaries s (made (exiting exit at s) s) ran.off ran.there left.children left.last_pid (ran.auxiliaries s is.auxiliaries)));
              asks = subst (λ (t : Standing). AsksAsDue (asked_in (journal_of (earlier ++ step ∷ []))) now.listens t) (sym standing)
                  (subst (λ (b : Bool). AsksAsDue (asked_in (journal_of (earlier ++ step ∷ []))) b (made (exiting exit at s) s)) (sym listens)
                  (subst (λ (l : List Mode). AsksAsDue l before.listens (made (exiting exit at s) s))
                  (sym (ap asked_in (sym j) ∙ asked_in-append (journal_of earlier) (journal_by step) ∙ ap (λ (l : List Mode). asked_in (journal_of earlier) ++ l) (no_asks run.kept run.generation) ∙ append-nil (asked_in (journal_of earlier))))
                  (same_owes (asked_in (journal_of earlier)) before.listens s (made (exiting exit at s) s) left.last_pid left.owes is.asks)));
              acts = subst (AreOurs (is_some now.work.standing.machine.shutdown)) (sym (ap (λ (t : Standing). t.due) standing ∙ left.due)) (exit_ours (is_some now.work.standing.machine.shutdown) run.kind s.machine _ run.was_active);
              causes = caused_run earlier run when before.auxiliaries now.auxiliaries before.outcome now.outcome ran.told (ap heard_of noted.auxiliaries ∙ ran.less.heard) (came_on run before.outcome mid.outcome now.outcome noted.outcome ran.came) is.causes;
              disturbed = ran_disturbed outset.faults earlier run when when before mid now (moved_on outset.faults run before now store) noted.store.moves.spans.later (record {
                told = ran.told;
                less = ran.less;
                had = had;
                off = λ its. off_startup run.kind mid.auxiliaries ran.off (sym its);
                sound = ran.sound outset.faults is.disturbed.counted;
                goes_on = goes_on_so s outset.limits (journal_of earlier) is.past is.stands idle.rests;
              }) noted.auxiliaries (ap (λ (t : Standing). t.machine) standing ∙ left.machine) (ap (λ (t : Standing). t.due) standing ∙ left.due) is.disturbed;
            };
        journal = subst (λ (l : List PmEvent). Added l before.work.told now.work.told) (sym (append-nil (journal_by step))) told;
        times = record {
          each = times_of gives s.moment when run.pid run.kind run.status run.was_active run.kept run.generation moment;
          last = subst (λ (t : Standing). (t.moment ≡ s.moment) ⊎ gives t.moment) (sym standing) (subst (λ (n : ℕ). (n ≡ s.moment) ⊎ gives n) (sym left.moment) (as_last gives s.moment when moment));
        };
        store = subst (λ (l : List BookEntry). Spans l before.store now.store) (sym (append-nil run.noted)) store.spans;
        still = λ none. store.generation;
        unread = λ none. subst (λ (l : List BookEntry). StaysUnread l before.store now.store) (sym (append-nil run.noted)) store.unread;
        knows = λ from known. known_still from mid now noted.outcome noted.store (ran.knows from known);
      };
      stays = λ earlier opened. record {
        free = subst IsFree (sym (goes.last earlier step)) tt;
        same = store.generation ∙ opened.same ∙ sym (ap (λ (t : Standing). t.generation) standing ∙ left.generation);
        inside = λ who.
            store.attends who ∙ run_inside run who (times_in who before.store.inside) ran.is_run.use_of_store
            ∙ ap (λ (n : ℕ). n + more_inside run.was_active who run.pid) (opened.inside who)
            ∙ sym (lost_more run.was_active who run.pid before.lost) ∙ ap (times_in who) (sym lost);
      };
      ended = ap (λ (t : Standing). t.ended) standing ∙ left.ended;
      listens = listens;
      last_pid = ap (λ (t : Standing). t.last_pid) standing ∙ left.last_pid;
    }

-- ---- it isn't noted

pub ran_on : StepsGoOn → KeepsALegalJournal → (gives : ℕ → Type 0) (run : ChildRun) (before mid now : View) → IsRunning before → IsAtRest before.work.standing
    → HasRun run before mid → NotesNoExit mid now → Goes gives (RunsOn run ∷ []) before now
ran_on goes legal gives run before mid now running rests ran noted =
    let s = before.work.standing in
    let step : Step = RunsOn run in
    let standing : now.work.standing ≡ s = noted.standing ∙ ap (λ (w : AtWork). w.standing) ran.work in
    let told : now.work.told ≡ before.work.told = noted.told ∙ ap (λ (w : AtWork). w.told) ran.work in
    let generation : run.generation ≡ s.generation = ran.generation ∙ running.3.same in
    let store : Moves run.noted before.store now.store = subst (λ (l : List BookEntry). Moves l before.store now.store) (append-nil run.noted) (moves_on run.noted [] before.store mid.store now.store ran.store noted.store.moves) in
    let log : now.log ≡ before.log = noted.log ∙ ran.log in
    let listens : now.listens ≡ before.listens = noted.listens ∙ ran.listens in
    record {
      at = λ outset earlier is opened.
          let j : journal_of earlier ≡ journal_of (earlier ++ step ∷ []) = sym (goes.journal earlier step ∙ append-nil (journal_of earlier)) in
          record {
            past = is.past;
            stands = subst (λ (t : Standing). Stands outset.limits (Some (journal_of (earlier ++ step ∷ []))) t is.past) (sym standing) (subst (λ (l : List PmEvent). Stands outset.limits (Some l) s is.past) j is.stands);
            told = subst (λ (t : Option (List PmEvent)). IfSome t (λ x. x ≡ journal_of (earlier ++ step ∷ []))) (sym told) (subst (λ (l : List PmEvent). IfSome before.work.told (λ x. x ≡ l)) j is.told);
            are_steps = goes.step outset.limits earlier step is.are_steps (record {
              follows = runs_on_follows run (last_or None earlier) opened.free;
              fits = (there_in goes legal outset.limits (journal_of earlier) s is.past run is.stands rests.none_due ran.there generation, ran.is_run);
            });
            lost_is = noted.lost ∙ ran.lost ∙ is.lost_is ∙ sym (goes.lost earlier step);
            said = subst (λ (l : List PmEvent). HasSaid l outset.log now.log) j (subst (λ (x : LogView). HasSaid (journal_of earlier) outset.log x) (sym log) is.said);
            auxiliaries = subst (λ (t : Standing). AreThere now.auxiliaries t) (sym standing) (subst (λ (h : Auxiliaries). AreThere h s) (sym noted.auxiliaries) (ran.auxiliaries s is.auxiliaries));
            asks = subst (λ (t : Standing). AsksAsDue (asked_in (journal_of (earlier ++ step ∷ []))) now.listens t) (sym standing)
                (subst (λ (b : Bool). AsksAsDue (asked_in (journal_of (earlier ++ step ∷ []))) b s) (sym listens) (subst (λ (l : List PmEvent). AsksAsDue (asked_in l) before.listens s) j is.asks));
            acts = subst (λ (t : Standing). AreOurs (is_some t.machine.shutdown) t.due) (sym standing) is.acts;
            causes = caused_on earlier run before.auxiliaries now.auxiliaries before.outcome now.outcome ran.told (ap heard_of noted.auxiliaries ∙ ran.less.heard) (came_on run before.outcome mid.outcome now.outcome noted.outcome ran.came) is.causes;
            disturbed = ran_on_disturbed outset.faults earlier run before now (moved_on outset.faults run before now store) standing
                (subst (λ (h : Auxiliaries). HasLess before.auxiliaries h) (sym noted.auxiliaries) ran.less) is.disturbed;
          };
      journal = subst (λ (t : Option (List PmEvent)). Added [] before.work.told t) (sym told) (added_none before.work.told);
      times = record { each = tt; last = inl (ap (λ (t : Standing). t.moment) standing) };
      store = subst (λ (l : List BookEntry). Spans l before.store now.store) (sym (append-nil run.noted)) store.spans;
      still = λ none. store.generation;
      unread = λ none. subst (λ (l : List BookEntry). StaysUnread l before.store now.store) (sym (append-nil run.noted)) store.unread;
      knows = λ from known. known_still from mid now noted.outcome noted.store (ran.knows from known);
    }

-- ---- a connection is accepted

pub record IsTaken (gives : ℕ → Type 0) (before now : View) : Type 0 where
  pub goes : Goes gives (Notes (entry.Accepted (next_pid before.work.standing) (decision_on before.work.standing)) ∷ []) before now
  pub stays : StaysOpen (Notes (entry.Accepted (next_pid before.work.standing) (decision_on before.work.standing)) ∷ []) before now
  pub there : kind_in (next_pid before.work.standing) now.work.standing.children ≡ Some (kind_for (decision_on before.work.standing))

pub taken : StepsGoOn → GoesOnOverItsJournal → (gives : ℕ → Type 0) (before : View) (w : AtWork) → IsAtRest before.work.standing → IsSettled before.work.standing → MayTake before.work.standing
    → w.standing ≡ made (accepting before.work.standing) before.work.standing → Added (accepting before.work.standing).entries before.work.told w.told
    → IsTaken gives before (record before { work = w })
taken goes work gives before w rests settled may standing told =
    let s = before.work.standing in
    let e = entry.Accepted (next_pid s) (decision_on s) in
    record {
      goes = record {
        at = λ outset earlier is opened.
            let j : journal_of earlier ++ e ∷ [] ≡ journal_of (earlier ++ Notes e ∷ []) = sym (goes.journal earlier (Notes e)) in
            let stood = work.accepts outset.limits (journal_of earlier) s is.past is.stands rests settled may in
            record {
              past = behind s.machine (accepting s).call is.past;
              stands = subst (λ (t : Standing). Stands outset.limits (Some (journal_of (earlier ++ Notes e ∷ []))) t (behind s.machine (accepting s).call is.past)) (sym standing)
                  (subst (λ (l : List PmEvent). Stands outset.limits (Some l) (made (accepting s) s) (behind s.machine (accepting s).call is.past)) j stood);
              told = subst (λ (l : List PmEvent). IfSome w.told (λ es. es ≡ l)) j (told_more before.work.told w.told (journal_of earlier) (e ∷ []) is.told told);
              are_steps = goes.step outset.limits earlier (Notes e) is.are_steps (record { follows = notes_follow e (last_or None earlier) opened.free; fits = tt });
              lost_is = is.lost_is ∙ sym (goes.lost earlier (Notes e));
              said = subst (λ (l : List PmEvent). HasSaid l outset.log before.log) j (said_same (journal_of earlier) (e ∷ []) outset.log before.log refl is.said);
              auxiliaries = subst (λ (t : Standing). AreThere before.auxiliaries t) (sym standing) (auxiliaries_beside before.auxiliaries (kind_for (decision_on s)) s (made (accepting s) s) refl refl is.auxiliaries);
              asks = subst (λ (t : Standing). AsksAsDue (asked_in (journal_of (earlier ++ Notes e ∷ []))) before.listens t) (sym standing)
                  (subst (λ (l : List Mode). AsksAsDue l before.listens (made (accepting s) s)) (sym (ap asked_in (sym j) ∙ asked_in-append (journal_of earlier) (e ∷ []) ∙ append-nil (asked_in (journal_of earlier))))
                  (asks_drawn (asked_in (journal_of earlier)) before.listens s (made (accepting s) s) refl refl is.asks));
              acts = subst (λ (t : Standing). AreOurs (is_some t.machine.shutdown) t.due) (sym standing) tt;
              causes = caused_entry earlier e before.auxiliaries before.auxiliaries before.outcome before.outcome refl (inl refl) is.causes;
              disturbed = taken_disturbed outset.faults earlier (next_pid s) (decision_on s) before (record before { work = w }) refl refl (ap (λ (t : Standing). t.machine) standing) (ap (λ (t : Standing). t.due) standing) is.disturbed;
            };
        journal = told;
        times = record { each = (tt, tt); last = inl (ap (λ (t : Standing). t.moment) standing) };
        store = spans_none before.store;
        still = λ none. refl;
        unread = λ none. (moves_none before.store).unread;
        knows = λ from known. record { counted = known.counted; come = known.come };
      };
      stays = λ earlier opened. record {
        free = subst IsFree (sym (goes.last earlier (Notes e))) tt;
        same = opened.same ∙ sym (ap (λ (t : Standing). t.generation) standing);
        inside = opened.inside;
      };
      there = subst (λ (t : Standing). kind_in (next_pid s) t.children ≡ Some (kind_for (decision_on s))) (sym standing)
          (ap (λ (b : Bool). if b then Some (kind_for (decision_on s)) else kind_in (next_pid s) s.children) (eq-eqb (next_pid s) (next_pid s) refl));
    }
