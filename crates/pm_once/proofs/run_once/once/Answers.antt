use Rattle.std.{proofs.{Common.{◌≡◌, ◌⊎◌, ℕ, List, [], None, refl, sym, ap, subst, ◌∙◌, inl, inr}, lemmas.List.Elements.All-nil}, specs.{Prelude.{Option, false, true, IfSome}, List.AllByRecursion}}
use Rattle.pm_server.{specs.{pm_disk.Cause.Rose, pm_state.declared.event.PmEvent.PmEvent, pm_supervisor_journal.{Stands.any_moment, Supervision.at_work}, pm_segment.{Moment.moment, Moves.IsShown, MovesLaws.{break_shown, time_still}}, Story.IsNoOpening, pm_server_lines.Log.{LogView, view_of as log_view_of}, Outside.{OutsideView, outside_view, store_view}, Ends.IsBook, Journal.IsJournal}, proofs.StoryLaws.{HasRunSo, ends_well, store_at, story_nothing, unread_counts, whole_cause, whole_story}}
use Rattle.pm_once_acts.{specs.pm_supervisor_chain.Steps.{book_of, journal_of, whole_book}, proofs.StepsLaws.{serves_nothing, no_renewal, opened_once}}
use Rattle.pm_once_children.{specs.{Calm.EndThemselves, AuxiliaryRuns.nothing_heard}, proofs.EndsLaws.end_themselves}
use Rattle.pm_once.{specs.{View.{View, view_of}, Knows.Knows}, proofs.{Whole.{HasBegun, begins_idle, begins_running, nothing_asked, nothing_journal, logged_as, nothing_logged, whole_asked, whole_book_is, whole_end, whole_journal, whole_log, whole_once, whole_rose, whole_runs, whole_sessions}, Known.known_at, Serving.nothing_served}}
use Rattle.pm_once.proofs.run_once.once.Goals as goal

pub run-server-requires : goal.run-server-requires
run-server-requires g c =
    let limits = c.args.conf.now.limits in
    let v : View = record { work = at_work c.new-supervision.result; store = moment c.in-Ok.store; log = log_view_of c.new-log.result; lost = c.new-2.result.items; auxiliaries = c.none.result; outcome = None; listens = true } in
    let begun : HasBegun limits v = record {
      standing = c.new-supervision.ensures.standing;
      told = subst (λ (t : Option (List PmEvent)). IfSome t (λ es. es ≡ [])) (sym c.new-supervision.ensures.told) c.requires.empty;
      unbroken = ap (λ (l : LogView). l.is_cut) c.new-log.ensures;
      lost = c.new-2.ensures.items;
      auxiliaries = c.none.ensures;
      outcome = refl;
      unread = c.in-Ok.ensures.unread;
      listens = refl;
      generation = c.in-Ok.ensures.generation;
      inside = c.in-Ok.ensures.empty;
    } in
    record { running = begins_running c.laws.ensures.steps c.laws.ensures.work limits v begun; idle = begins_idle limits v begun }

pub returns-in-Err-clause-run : goal.returns-in-Err-clause-run
returns-in-Err-clause-run g c =
    let limits = c.args.conf.now.limits in
    let gives = g.C.Clock.gives c.args.outside.clock in
    let refused = c.in-Err.ensures.refused in
    record {
      steps = [];
      connections = [];
      ended = false;
      journal = subst (λ (t : Option (List PmEvent)). IsJournal limits gives [] (g.J.Chronicle.entries c.args.outside.journal) t) (sym (c.into_journal.ensures ∙ c.new-supervision.ensures.told)) (nothing_journal limits gives (g.J.Chronicle.entries c.args.outside.journal));
      are_steps = c.laws.ensures.steps.begins limits;
      book = inl (refl, refused.1);
      chained = c.laws.ensures.chained limits any_moment [] tt (c.laws.ensures.steps.begins limits);
      asked = nothing_asked limits;
      ends = tt;
      runs = tt;
      served = nothing_served c.args.outside.seed c.args.conf.now.session.authentication_ms gives [] (g.P.Port.visits c.args.outside.port) serves_nothing;
      logged = logged_as _ (log_view_of c.new-log.result) (log_view_of c.say_end.new.log) _ _ _ _ c.new-log.ensures c.into_sink.ensures.written c.into_sink.ensures.faults
          (nothing_logged (log_view_of c.new-log.result) (log_view_of c.say_end.new.log) (ap (λ (l : LogView). l.is_cut) c.new-log.ensures) c.say_end.ensures);
      faults = All-nil (IsShown (g.D.Disk.faults c.args.outside.disk) (g.D.Disk.faults c.in-Err.disk));
      story = λ empty. rw refused.0 (story_nothing (outside_view c.args.outside).disk _ (refused.1 ∙ empty));
      cause = tt;
      well = λ sound. inr refl;
      unharmed = λ unfailed. tt;
    }

pub returns-clause-run : goal.returns-clause-run
returns-clause-run g c =
    let limits = c.args.conf.now.limits in
    let gives = g.C.Clock.gives c.args.outside.clock in
    let disk = c.args.outside.disk in
    let store = c.in-Ok.store in
    let v : View = record { work = at_work c.new-supervision.result; store = moment store; log = log_view_of c.new-log.result; lost = c.new-2.result.items; auxiliaries = c.none.result; outcome = None; listens = true } in
    let now : View = view_of c.run-server.result.0 in
    let begun : HasBegun limits v = record {
      standing = c.new-supervision.ensures.standing;
      told = subst (λ (t : Option (List PmEvent)). IfSome t (λ es. es ≡ [])) (sym c.new-supervision.ensures.told) c.requires.empty;
      unbroken = ap (λ (l : LogView). l.is_cut) c.new-log.ensures;
      lost = c.new-2.ensures.items;
      auxiliaries = c.none.ensures;
      outcome = refl;
      unread = c.in-Ok.ensures.unread;
      listens = refl;
      generation = c.in-Ok.ensures.generation;
      inside = c.in-Ok.ensures.empty;
    } in
    let r = c.run-server.ensures in
    let end = c.run-server.result.1 in
    let steps = r.0 in
    let laws = c.laws.ensures in
    let before : OutsideView = outside_view c.args.outside in
    let counted = unread_counts (g.D.Disk.faults disk) v.store.faults v.store.live (sym (ap g.D.Disk.faults c.in-Ok.ensures.disk)) c.in-Ok.ensures.unread in
    let its_run : HasRunSo before.disk v.store (book_of steps) now.store = record {
      began = rw c.in-Ok.ensures.disk (time_still (g.D.Disk.ticks disk) (g.D.Disk.images disk));
      generation = c.in-Ok.ensures.generation;
      spans = r.3.goes.store;
      still = λ none. r.3.goes.still (no_renewal steps none);
      unread = λ none. r.3.goes.unread (no_renewal steps none);
      files = ap g.D.Disk.seen c.in-Ok.ensures.disk;
      faults = ap g.D.Disk.faults c.in-Ok.ensures.disk;
    } in
    let known : Knows (g.D.Disk.faults disk) now = r.3.goes.knows (g.D.Disk.faults disk) (record { counted = counted; come = tt }) in
    let known_end = known_at end steps (g.D.Disk.faults disk) now r.3.ends known
    (λ is. subst (λ (n : ℕ). Rose n now.store.faults) its_run.faults (whole_rose laws.steps laws.work limits gives end r.1 r.2 steps v now begun r.3 is)) in
    let caused = whole_cause end (store_view before) v.store (book_of steps) now.store c.in-Ok.ensures.notes (λ empty. c.in-Ok.ensures.waits empty) its_run known_end c.reads_its_files.ensures in
    let its_journal = whole_journal laws.steps laws.work laws.journal limits gives end r.1 r.2 steps v now begun r.3 in
    record {
      steps = steps;
      connections = r.1;
      ended = r.2;
      journal = subst (λ (t : Option (List PmEvent)). IsJournal limits gives (journal_of steps) (g.J.Chronicle.entries c.args.outside.journal) t) (sym c.into_journal-2.ensures)
          (subst (λ (t : Option (List PmEvent)). IsJournal limits gives (journal_of steps) t now.work.told) c.new-supervision.ensures.told its_journal.0);
      are_steps = its_journal.1;
      book = subst (λ b. IsBook (steps ≡ []) end (whole_book steps) (g.B.Chronicle.entries c.args.outside.book) (g.B.Chronicle.entries b)) (sym c.into_parts-disk.ensures.1)
          (whole_book_is gives end r.1 r.2 steps v now (g.B.Chronicle.entries c.args.outside.book) c.in-Ok.ensures.notes r.3);
      chained = laws.chained limits any_moment steps its_journal.0.legal its_journal.1;
      asked = whole_asked laws.steps laws.work limits gives end r.1 r.2 steps v now begun r.3;
      ends = whole_end laws.steps laws.work laws.journal laws.restarts limits gives end r.1 r.2 steps v now begun r.3;
      runs = whole_runs laws.steps laws.work limits gives end r.1 r.2 steps v now begun r.3;
      served = r.4;
      logged = logged_as _ (log_view_of c.new-log.result) (log_view_of c.say_end-2.new.log) _ _ _ _ c.new-log.ensures c.into_sink-2.ensures.written c.into_sink-2.ensures.faults
          (whole_log laws.steps laws.work limits gives end r.1 r.2 steps v now (log_view_of c.say_end-2.new.log) begun r.3 c.say_end-2.ensures);
      faults = rw c.into_parts-disk.ensures.0 (r.3.goes.store.counts (g.D.Disk.faults disk) counted).each;
      story = λ empty. rw (c.into_parts-disk.ensures.0, c.into_parts-disk.ensures.1)
          (whole_story end before.disk v.store (book_of steps) now.store before.book empty c.in-Ok.ensures.notes (c.in-Ok.ensures.waits empty) its_run known_end c.run-server.result.0.store.rests c.keeps_its_run.ensures.run);
      cause = rw (c.into_parts-disk.ensures.0, c.into_parts-disk.ensures.1) caused;
      well = rw c.into_parts-disk.ensures.0
          (ends_well end (book_of steps) (store_view before) (store_at now.store) caused (r.3.goes.store.counts (g.D.Disk.faults disk) counted).each
          (elim (whole_once laws.steps laws.work limits gives end r.1 r.2 steps v now begun r.3) as (λ _. AllByRecursion IsNoOpening (book_of steps) ⊎ Rose before.disk.faults now.store.faults) [
            | inl once ↦ inl (opened_once limits [] steps its_journal.1 once)
            | inr rose ↦ inr (subst (λ (n : ℕ). Rose n now.store.faults) its_run.faults rose)
          ]));
      unharmed = rw c.into_parts-disk.ensures.0 (λ (unfailed : Rose before.disk.faults now.store.faults → ⊥).
          elim (whole_sessions laws.steps laws.work limits gives end r.1 r.2 steps v now begun r.3) as (λ _. EndThemselves nothing_heard steps) [
            | inl fine ↦ end_themselves nothing_heard steps (whole_runs laws.steps laws.work limits gives end r.1 r.2 steps v now begun r.3) fine
                (λ breaks. unfailed (break_shown before.disk.faults now.store.faults (book_of steps) (r.3.goes.store.counts (g.D.Disk.faults disk) counted).each breaks))
            | inr rose ↦ absurd (unfailed (subst (λ (n : ℕ). Rose n now.store.faults) its_run.faults rose))
          ]);
    }
