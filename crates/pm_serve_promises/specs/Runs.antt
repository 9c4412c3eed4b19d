-- A run of a server of many connections, as what is promised speaks of it.
use Rattle.std.specs.Prelude.{List}
use Rattle.pm_server.specs.{pm_query.declared.book.BookEntry.BookEntry, declared.{conf.Conf.Conf, end.ServerEnd.ServerEnd}, pm_state.declared.event.PmEvent.PmEvent}
use Rattle.pm_promises.specs.{pm_session_answers.Replies.Talk, Runs.RunView}
use Rattle.pm_postmaster.specs.{pm_board.pm_board_words.declared.views.RosterView.RosterView, pm_board_acts.Seating.journal_of, pm_worker.{declared.mail.MailTold.MailTold, Runs.Run}, Outside.ServeView, Served.{IsServed, slots_by}}
use Rattle.pm_serve_first_crash.specs.pm_serve_crew.Talks.{runs_of}
use Rattle.pm_serve_clean_end.specs.CleanEnd.{HasEndedClean}

module _ {conf : Conf} {end : ServerEnd} {board : RosterView MailTold} {before now : ServeView} (run : IsServed conf end board before now) where
  -- its journal
  abbrev pub journal_in : List PmEvent
  journal_in = journal_of (slots_by conf.limits) run.moves

  -- all runs of its workers
  abbrev pub runs_in : List Run
  runs_in = runs_of (slots_by conf.limits) run.left.runs

  -- the run with these connections and this book
  abbrev pub run_view : List Talk → List BookEntry → RunView
  run_view talks book =
      record { book = book; talks = talks; before = before.outside.disk; now = now.outside.disk; clean = HasEndedClean journal_in }
