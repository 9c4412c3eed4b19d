-- What children told of their store is so by more entries too.
use Rattle.std.{proofs.Common.{◌≤◌, List, [], ◌∷◌, arith}, specs.{Prelude.Option, List.AllByRecursion}}
use Rattle.pm_store_shared.specs.{pm_disk.Files.Files, GrowsLaws.generation_rises, LearnedLaws.unread_on, Log.Continues}
use Rattle.pm_session_answers.specs.pm_query.{declared.book.BookEntry.BookEntry, Book.generation_of}
use Rattle.pm_board_acts.specs.pm_worker.Runs.{Run}
use Rattle.pm_serve_crew.specs.Left.{IsBorneOut}

borne_on : (files : Option Files) (past log : List BookEntry) → Continues past log → (run : Run) → IsBorneOut files past run → IsBorneOut files log run
borne_on files past log on run borne = record {
  reason = λ fault kept startup back. unread_on files past log on fault (borne.reason fault kept startup back);
  met = (let rises : generation_of past ≤ generation_of log = generation_rises past log on in let met : run.met ≤ generation_of past = borne.met in omega arith);
}

pub all_borne_on : (files : Option Files) (past log : List BookEntry) → Continues past log → (runs : List Run) → AllByRecursion (IsBorneOut files past) runs → AllByRecursion (IsBorneOut files log) runs
all_borne_on files past log on [] borne = tt
all_borne_on files past log on (run ∷ runs) borne = (borne_on files past log on run borne.0, all_borne_on files past log on runs borne.1)
