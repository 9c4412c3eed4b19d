-- A run of a server of many connections that keeps what a user counts on.
use Rattle.std.specs.{Prelude.{List, Option, None, Some}, List.AllByRecursion}
use Rattle.pm_server.specs.{pm_disk.Cause.Rose, pm_query.{declared.book.BookEntry.BookEntry, Book.Base}, declared.{conf.Conf.Conf, end.ServerEnd.ServerEnd}, pm_state.Restarts.RestartsInOrder}
use Rattle.pm_promises.specs.{pm_session_answers.Replies.Talk, Promises.IsPromised, Runs.IsTold}
use Rattle.pm_postmaster.specs.{pm_board.pm_board_words.declared.views.RosterView.RosterView, pm_board_acts.Chained.IsChainedLoosely, pm_worker.declared.mail.MailTold.MailTold, Links.accepted_in, Outside.ServeView, Served.{IsServed, IsUnmade}}
use Rattle.pm_serve_first_crash.specs.{pm_supervisor_crashes.Crashes.IsUnasked, pm_serve_crew.Talks.AreTalksOf}
use Rattle.pm_serve_promises.specs.{Completes.{HasCompleted, IsUntroubled}, Crashes.CrashesForCause, Links.AreOverLinks, Runs.{journal_in, run_view, runs_in}, Starts.FailsForReason}

-- A run whose pool was made keeps all of them where book and disk tell. Nothing else needs that.
pub record IsPromisedRun (conf : Conf) (end : ServerEnd) (board : RosterView MailTold) (before now : ServeView) : Type 0 where
  pub run : IsServed conf end board before now
  -- from an abnormal exit until redo has ended no session is admitted
  pub restarts : RestartsInOrder conf.limits (journal_in run)
  pub chained : IsChainedLoosely (journal_in run) run.book
  -- where nobody asked for a kill or to stop at once, and the disk didn't fail
  pub crashes : AllByRecursion IsUnasked (journal_in run) → ¬ (Rose before.outside.disk.faults now.outside.disk.faults) → CrashesForCause run
  -- a start that failed tells why its files can't be read
  pub reason : FailsForReason end run.book before.outside.disk
  -- and where nothing goes wrong outside, it ends clean, or for want of memory
  pub completes : IsUntroubled run → HasCompleted run
  -- its connections as their clients saw them, each over the link that it was accepted with
  pub talks : List Talk
  pub are_talks : AreTalksOf before.outside.seed (runs_in run) talks
  pub links : AreOverLinks (accepted_in (journal_in run)) now.outside.visits talks
  pub promised : (book : List BookEntry) → IsTold now.outside book → (base : Base) × IsPromised base (run_view run talks book)

-- Where no pool was made nothing was answered, and nothing is promised but that.
abbrev pub IsPromisedServe : Conf → ServerEnd → Option (RosterView MailTold) → (before now : ServeView) → Type 0
IsPromisedServe conf end (Some board) before now = IsPromisedRun conf end board before now
IsPromisedServe conf end None before now = IsUnmade end before now
