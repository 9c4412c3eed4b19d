-- A server of many connections keeps what a user counts on.
use Rattle.std.{proofs.{Common.{◌≡◌, inr, ℕ, List, Some, None}, lemmas.List.Elements.All-from_recursion}, specs.List.AllByRecursion}
use Rattle.pm_server.specs.{pm_disk.Files.Files, pm_query.{declared.book.BookEntry.BookEntry, Book.IsLegal, BookLaws.AckedNeverFalls}, pm_state.Laws.RestartsSafely, pm_supervisor.declared.Limits.Limits, Views.DiskView}
use Rattle.pm_promises.{specs.{pm_session_answers.Own.entries_by, Promises.IsPromised, Runs.RunView, Stops.AcknowledgedStays}, proofs.StopsLaws.{at_each, whole_each, base_is}}
use Rattle.pm_postmaster.specs.{pm_board.pm_board_words.declared.views.RosterView.RosterView, pm_board_acts.Seating.{Move, journal_of}, pm_store_shared.declared.views.Noted.Noted, pm_worker.{declared.mail.MailTold.MailTold, Runs.IsRun}}
use Rattle.pm_serve_first_crash.{specs.pm_serve_crew.{Left.{AreLeft, Manner}, Pids.{AreEntriesOf, AreUsedOnce}, Talks.runs_of}, proofs.pm_serve_crew.{EntriesLaws.{entries_of_runs, worked}, TalksLaws.{FineTalks, IsFine, each_of_slots}}}
use Rattle.pm_serve_clean_end.{specs.CleanEnd.{HasEndedClean, IsLeftBy}, proofs.CleanEndLaws.ends_clean}

-- ---- all runs of its workers

module _ (manner : Manner) (count : ℕ) (d : RosterView MailTold) (list : List Noted) (book : List BookEntry) (left : AreLeft manner count d list book) (once : AreUsedOnce d) where
  pub all_runs : AllByRecursion (IsRun None manner.seed manner.limit manner.gives) (runs_of count left.runs)
  all_runs = each_of_slots (IsRun None manner.seed manner.limit manner.gives) count left.runs (λ k less. (worked manner count d list book left once k less).each)

  all_entries : AreEntriesOf book (runs_of count left.runs)
  all_entries = each_of_slots (λ run. entries_by run.child.offer.pid book ≡ run.noted) count left.runs (entries_of_runs manner count d list book left once)

-- ---- what they leave

module _ (never : AckedNeverFalls) (safely : RestartsSafely) (limits : Limits) (manner : Manner) (count : ℕ) (moves : List Move) (d : RosterView MailTold) (list : List Noted) (book : List BookEntry) (before now : DiskView)
    (its : IsLeftBy limits manner count moves d list book before now) (told : FineTalks manner.seed (runs_of count its.left.runs)) where
  abbrev pub its_view : RunView
  its_view = record { book = book; talks = told.talks; before = before; now = now; clean = HasEndedClean (journal_of count moves) }

  pub promised : (files : Files) → now.files ≡ Some files → IsPromised its.remains.base its_view
  promised files is =
      let legal : IsLegal its.remains.base book = its.remains.legal (inr (files, is)) in
      let stays : AcknowledgedStays its.remains.base book before now = at_each its.remains.base book before now files is its.remains.stops in
      record {
        base_is = base_is its.remains.base book before now its.remains.stops;
        answers_are_right = All-from_recursion (IsFine its.remains.base book) told.talks
            (told.fine its.remains.base book legal (all_entries manner count d list book its.left its.once));
        acknowledged_stays = stays;
        whole_or_not = whole_each never its.remains.base book before now stays;
        ends_clean = ends_clean safely limits manner count moves d list book before now its;
      }
