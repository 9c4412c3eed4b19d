-- What the workers of a board leave once they were joined.
use Rattle.std.specs.{Prelude.{◌≡◌, ◌<◌, ◌≤◌, ℕ, List, map, Option, None, Some, length, slice_get}, List.{AllByRecursion, flat_map}}
use Rattle.pm_board_acts.specs.{pm_board.{pm_board_words.declared.views.{PostNotes.PostNotes, RosterView.RosterView, Sight.TheVariants.Gathered}, Heard.HeardAsSent, Places.slot_at}, pm_exit.declared.child.Kind.TheVariants.Startup, pm_worker.{declared.mail.MailTold.MailTold, Runs.{IsRun, Run, noted_by}}}
use Rattle.pm_board_acts.specs.pm_worker.declared.mail.MailTold.TheVariants as mail
use Rattle.pm_session_answers.specs.pm_query.{declared.{book.BookEntry.BookEntry, store.StoreNo.TheVariants.Redo}, Book.generation_of}
use Rattle.pm_store_shared.specs.{pm_disk.Files.Files, pm_record.declared.fault.RedoFault.RedoFault, declared.views.Noted.Noted, Log.{IsShuffle, entries_of}, Learned.IsUnread}

-- What the workers go by: the seed of their keys, the limit of authentication, the moments that their clocks give, and the files that
-- their store was handed.
pub record Manner : Type 1 where
  pub seed : List ℕ
  pub limit : ℕ
  pub gives : ℕ → Type 0
  pub files : Option Files

-- What a child told of its store is so by these entries: why a startup child couldn't read the log, and in which generation the store
-- was met.
pub record IsBorneOut (files : Option Files) (log : List BookEntry) (run : Run) : Type 0 where
  pub reason : (fault : RedoFault) (kept : Option ℕ) → run.child.offer.kind ≡ Startup → run.child.back ≡ mail.Aux (Some (Redo fault)) kept
      → IsUnread files log fault
  pub met : run.met ≤ generation_of log

-- The worker of the slot k was joined. These are its runs: one for one, and in order, the children of its slot; what these heard, the
-- latches that they looked at, the cancels that they made, and what they noted in the book, each at its place, are theirs.
pub record IsWorked (manner : Manner) (d : RosterView MailTold) (k : ℕ) (runs : List Run) (noted : List Noted) : Type 0 where
  pub each : AllByRecursion (IsRun None manner.seed manner.limit manner.gives) runs
  pub notes : PostNotes
  pub children : (slot_at d k).past ≡ map (λ run. run.child) runs
  pub gathered : (slot_at d k).sight ≡ Gathered (slot_at d k).past notes
  pub heard : notes.heard ≡ map (λ run. run.heard) runs
  pub looked : notes.looked ≡ flat_map (λ run. run.looked) runs
  pub cancels : notes.cancels ≡ flat_map (λ run. run.made) runs
  pub entries : entries_of noted ≡ noted_by runs

-- All workers of a board of so many slots were joined. The book's entries are those of their runs and of the shared side's own list,
-- each once and in order, what their children heard was sent to them, and what these told of the store is so.
pub record AreLeft (manner : Manner) (count : ℕ) (d : RosterView MailTold) (own : List Noted) (book : List BookEntry) : Type 0 where
  pub runs : ℕ → List Run
  pub lists : List (List Noted)
  pub slots : length d.slots ≡ count
  pub all : length lists ≡ count
  pub each : (k : ℕ) (noted : List Noted) → slice_get lists k ≡ Some noted → IsWorked manner d k (runs k) noted
  pub shuffle : IsShuffle count lists own book
  pub sent : HeardAsSent d
  pub borne_out : (k : ℕ) → k < count → AllByRecursion (IsBorneOut manner.files book) (runs k)
