-- A run of `once` keeps all promises.
use Rattle.std.{proofs.Common.{◌≡◌, inr, List, [], Option, Some, None}, specs.Prelude.IfSome}
use Rattle.pm_server.specs.{pm_disk.Files.Files, pm_query.{BookLaws.AckedNeverFalls, Book.{Base, history_of}, declared.book.BookEntry.BookEntry}, pm_supervisor_journal.Stands.any_moment, pm_state.Laws.RestartsSafely, declared.{conf.Conf.Conf, end.ServerEnd.ServerEnd}, Outside.OutsideView, Story.{IsClean, IsStory}}
use Rattle.pm_promises.{specs.{pm_session_answers.Laws.RepliesAreRight, Promises.IsPromised, Runs.IsTold, Stops.AcknowledgedStays}, proofs.StopsLaws.{at_each, whole_each, base_is}}
use Rattle.pm_once.specs.{pm_supervisor_chain.Steps.journal_of, Once.IsOnceRun}
use Rattle.pm_once_promises.{specs.PromisedOnce.{IsPromisedOnce, run_view}, proofs.{Replying.once_answers_right, Telling.its_story}}

both : {A : Type 0} (P Q : A → Type 0) (o : Option A) → IfSome o P → IfSome o Q → IfSome o (λ x. P x × Q x)
both P Q None p q = tt
both P Q (Some x) p q = (p, q)

promised : RepliesAreRight → AckedNeverFalls → (conf : Conf) (end : ServerEnd) (before now : OutsideView) (run : IsOnceRun conf end before now)
    → before.book ≡ Some [] → (book : List BookEntry) → IsTold now book → (base : Base) × IsPromised base (run_view run book)
promised law never conf end before now run empty book told =
    let story : IsStory end before.disk now.disk book = its_story conf end before now run empty book told in
    let stays : AcknowledgedStays story.base book before.disk now.disk = at_each story.base book before.disk now.disk told.files told.files_are story.stops in (
      story.base,
      record {
        base_is = base_is story.base book before.disk now.disk story.stops;
        answers_are_right = once_answers_right law conf end before now book run empty told.book_is story.base (story.legal (inr (told.files, told.files_are)));
        acknowledged_stays = stays;
        whole_or_not = whole_each never story.base book before.disk now.disk stays;
        ends_clean = λ clean. both (λ files. ∥ IsClean (history_of story.base book) files ∥₁)
            (λ _. (image : Files) → now.disk.images now.disk.ticks image → ∥ IsClean (history_of story.base book) image ∥₁)
            now.disk.files (story.clean clean.0) (story.leaves_clean clean.0);
      },
    )

pub promised_run : RepliesAreRight → AckedNeverFalls → RestartsSafely → (conf : Conf) (end : ServerEnd) (before now : OutsideView) → IsOnceRun conf end before now
    → IsPromisedOnce conf end before now
promised_run law never safely conf end before now run = record {
  run = run;
  restarts = safely.in_order conf.limits any_moment (journal_of run.steps) run.journal.legal;
  promised = promised law never conf end before now run;
}
