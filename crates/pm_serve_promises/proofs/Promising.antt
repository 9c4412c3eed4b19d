-- A run of a server of many connections keeps the promises.
use Rattle.std.{proofs.Common.{◌≡◌, List, Option, None, Some, sym, subst}, specs.Prelude.IfSome}
use Rattle.pm_session_answers.specs.Laws.{OwnEntriesStand, RepliesAreRight}
use Rattle.pm_serve_chain.proofs.ChainedLaws.{chained}
use Rattle.pm_server.specs.{pm_supervisor_journal.Stands.any_moment, pm_query.{declared.book.BookEntry.BookEntry, Book.Base, BookLaws.AckedNeverFalls}, declared.{conf.Conf.Conf, end.ServerEnd.ServerEnd}, pm_state.Laws.RestartsSafely}
use Rattle.pm_promises.specs.{Promises.IsPromised, Runs.IsTold}
use Rattle.pm_postmaster.specs.{pm_board.pm_board_words.declared.views.RosterView.RosterView, pm_worker.declared.mail.MailTold.MailTold, Outside.ServeView, Served.{IsServed, IsServeRun, manner_by, slots_by}, pm_store_remains.Remains.IsLeft}
use Rattle.pm_supervisor_crashes.specs.Laws.{EndsForCause}
use Rattle.pm_serve_first_crash.proofs.pm_serve_crew.TalksLaws.{FineTalks, fine_talks}
use Rattle.pm_serve_clean_end.specs.CleanEnd.{IsLeftBy}
use Rattle.pm_serve_promises.{specs.{PromisedServe.{IsPromisedRun, IsPromisedServe}, Runs.{journal_in, run_view, runs_in}}, proofs.{Blaming.crashes_for_cause, Completing.completes, Linking.over_links, PromisesLaws.{all_runs, promised}, Reasons.fails_for_reason}}

-- what is told of the book is said of these entries
said_of : (T : List BookEntry → Type 0) (told : Option (List BookEntry)) (book : List BookEntry) → told ≡ Some book → IfSome told T → T book
said_of T told book is said = subst (λ (o : Option (List BookEntry)). IfSome o T) is said

module _ (right : RepliesAreRight) (own : OwnEntriesStand) (never : AckedNeverFalls) (safely : RestartsSafely) (for_cause : EndsForCause) where
  module _ (conf : Conf) (end : ServerEnd) (board : RosterView MailTold) (before now : ServeView) (run : IsServed conf end board before now) where
    abbrev left_by : IsLeft before.outside.disk now.outside.disk run.book
        → IsLeftBy conf.limits (manner_by conf before) (slots_by conf.limits) run.moves board run.own run.book before.outside.disk now.outside.disk
    left_by remains = record {
      legal = run.journal.legal;
      board = run.board_is;
      left = run.left;
      once = run.once;
      renewals = run.renewals;
      redos = run.redos;
      remains = remains;
    }

    told_talks : FineTalks before.outside.seed (runs_in run)
    told_talks =
        fine_talks right own before.outside.seed conf.session.authentication_ms before.outside.gives (runs_in run)
        (all_runs (manner_by conf before) (slots_by conf.limits) board run.own run.book run.left run.once)

    promised_of : (book : List BookEntry) → IsTold now.outside book → (base : Base) × IsPromised base (run_view run told_talks.talks book)
    promised_of book told =
        let said : (book ≡ run.book) × IsLeft before.outside.disk now.outside.disk run.book =
        said_of (λ (its : List BookEntry). (its ≡ run.book) × IsLeft before.outside.disk now.outside.disk run.book) now.outside.book book told.book_is run.remains.told in
        let kept : IsPromised said.1.base (run_view run told_talks.talks run.book) =
        promised never safely conf.limits (manner_by conf before) (slots_by conf.limits) run.moves board run.own run.book before.outside.disk now.outside.disk (left_by said.1)
        told_talks told.files told.files_are in
        (said.1.base, subst (λ (b : List BookEntry). IsPromised said.1.base (run_view run told_talks.talks b)) (sym said.0) kept)

    promised_run : IsPromisedRun conf end board before now
    promised_run = record {
      run = run;
      restarts = safely.in_order conf.limits any_moment (journal_in run) run.journal.legal;
      chained = chained (manner_by conf before) (slots_by conf.limits) run.moves board run.own run.book run.board_is run.left run.once run.redos;
      crashes = crashes_for_cause safely conf end board before now run;
      reason = fails_for_reason conf end board before now run;
      completes = completes safely for_cause conf end board before now run;
      talks = told_talks.talks;
      are_talks = told_talks.are;
      links = over_links conf end board before now run told_talks.talks told_talks.are;
      promised = promised_of;
    }

  pub promised_serve : (conf : Conf) (end : ServerEnd) (board : Option (RosterView MailTold)) (before now : ServeView) → IsServeRun conf end board before now → IsPromisedServe conf end board before now
  promised_serve conf end (Some board) before now run = promised_run conf end board before now run
  promised_serve conf end None before now unmade = unmade
