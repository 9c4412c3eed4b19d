-- A run of `once` that keeps what a user counts on.
use Rattle.std.specs.Prelude.{◌≡◌, ◌≢◌, ℕ, List, [], map, All, Some}
use Rattle.pm_server.specs.{pm_modes.declared.Mode.TheVariants.Immediate, pm_state.{declared.event.PmEvent.PmEvent, Restarts.RestartsInOrder}, pm_query.{declared.book.BookEntry.BookEntry, Book.Base}, declared.{conf.Conf.Conf, end.ServerEnd.{ServerEnd, TheVariants.Clean}}, Journal.asked_in, Outside.OutsideView}
use Rattle.pm_once.specs.{pm_keys.CancelKey.cancel_key, pm_supervisor_chain.Steps.journal_of, Once.IsOnceRun, Service.Connection}
use Rattle.pm_server.specs.pm_admit.declared.Cac.TheVariants as decisions
use Rattle.pm_promises.specs.{pm_session_answers.Replies.Talk, Runs.{IsTold, RunView}, Promises.IsPromised}

-- a connection of `once` as its client saw it
abbrev pub talk_of : List ℕ → Connection → Talk
talk_of seed connection = record {
  pid = connection.pid;
  key = cancel_key seed connection.pid;
  decision = decisions.Ok;
  ending = connection.ending;
  link = connection.back.traffic;
}

-- the server ended clean, and no immediate shutdown was asked for
abbrev pub IsCleanEnd : ServerEnd → List PmEvent → Type 0
IsCleanEnd end journal = (end ≡ Clean) × All (λ mode. mode ≢ Immediate) (asked_in journal)

module _ {conf : Conf} {end : ServerEnd} {before now : OutsideView} (run : IsOnceRun conf end before now) where
  -- the run with this book
  abbrev pub run_view : List BookEntry → RunView
  run_view book = record {
    book = book;
    talks = map (talk_of before.seed) run.connections;
    before = before.disk;
    now = now.disk;
    clean = IsCleanEnd end (journal_of run.steps);
  }

-- A run keeps all of them where the book tells from its first entry on, and the disk tells. What the journal says needs neither.
pub record IsPromisedOnce (conf : Conf) (end : ServerEnd) (before now : OutsideView) : Type 0 where
  pub run : IsOnceRun conf end before now
  -- from an abnormal exit until redo has ended no session is admitted
  pub restarts : RestartsInOrder conf.limits (journal_of run.steps)
  pub promised : before.book ≡ Some [] → (book : List BookEntry) → IsTold now book → (base : Base) × IsPromised base (run_view run book)
