-- What the first crash of a server's journal is due to.
use Rattle.std.specs.{Prelude.{◌≡◌, ◌≢◌, ◌⊎◌, ◌<◌, ℕ, true, false, List, [], ◌∷◌, Some, None}, List.{AllByRecursion, Contains}}
use Rattle.pm_serve_crew.specs.pm_exit.declared.child.Kind.TheVariants as kinds
use Rattle.pm_serve_crew.specs.{pm_exit.declared.child.Status.TheVariants.{Code, Signal}, pm_admit.declared.Cac.Cac, pm_supervisor.declared.Limits.Limits, pm_state.{declared.{event.PmEvent.PmEvent, machine.Machine.Machine}, Exits.is_shutdown, Journal.IsLegal}, pm_supervisor_journal.Stands.any_moment, pm_board.pm_board_words.declared.views.RosterView.RosterView, pm_query.declared.{book.BookEntry.BookEntry, store.StoreNo.{StoreNo, TheVariants.{Stale, Full, Redo, NoMemory}}}, pm_session_exchange.declared.ending.Cause.TheVariants.Overtaken, pm_segment.Unread.is_break, pm_board_acts.{Board.ended_of, Seating.{Move, ends, journal_of}, Standing.IsBoardOf}, pm_store_shared.declared.views.Noted.Noted, pm_worker.{declared.mail.{LinkTold.LinkTold, MailTold.MailTold}, Runs.{IsSessionRun, Run}}, Left.{AreLeft, Manner}, Pids.AreUsedOnce}
use Rattle.pm_supervisor_crashes.specs.Crashes.{IsUnasked}
use Rattle.pm_store_remains.specs.pm_record.declared.fault.RedoFault.{RedoFault}
use Rattle.pm_store_remains.specs.pm_record.declared.fault.RedoFault.TheVariants as redo
use Rattle.pm_serve_crew.specs.pm_worker.declared.mail.MailTold.TheVariants as mail

-- ---- by what a child crashes

-- the store refused it this, as its mail tells that came back
abbrev pub WasRefused : StoreNo → Run → Type 0
WasRefused refusal run = run.child.back ≡ mail.Aux (Some refusal) None

-- A startup child with code 1: its files weren't read, by no fault of the disk, or memory was short.
pub record CannotRedo (run : Run) : Type 0 where
  pub kind : run.child.offer.kind ≡ kinds.Startup
  pub status : run.child.status ≡ Code 1
  pub why : ((fault : RedoFault) × (fault ≢ redo.Disk) × WasRefused (Redo fault) run) ⊎ WasRefused NoMemory run

-- A checkpointer with code 1: memory was short for the last checkpoint of a shutdown, or the log's epochs are spent.
pub record CannotClose (m : Machine) (run : Run) : Type 0 where
  pub kind : run.child.offer.kind ≡ kinds.Checkpointer
  pub status : run.child.status ≡ Code 1
  pub why : ((is_shutdown m.state ≡ true) × WasRefused NoMemory run) ⊎ ((need : ℕ) × WasRefused (Full need 0) run)

-- it was a session of this generation that exits as one whose store is in another
pub record IsOvertaken (manner : Manner) (generation : ℕ) (run : Run) : Type 0 where
  pub link : LinkTold
  pub decision : Cac
  pub session : IsSessionRun None manner.seed manner.limit manner.gives link decision run
  pub its : session.generation ≡ generation
  pub exit : session.ending.exit ≡ Overtaken

-- A child with signal 6: it met the store in another generation than its own.
pub record FoundAnother (manner : Manner) (run : Run) : Type 0 where
  pub status : run.child.status ≡ Signal 6
  pub mine : ℕ
  pub other : mine ≢ run.met
  pub why : WasRefused (Stale mine run.met) run ⊎ IsOvertaken manner mine run

-- these and no others
abbrev pub IsBlamed : Manner → Machine → Run → Type 0
IsBlamed manner m run = CannotRedo run ⊎ (CannotClose m run ⊎ FoundAnother manner run)

-- The entry, as this machine meets it, tells of the end of one of these runs, on a board of so many slots, that has such a cause.
pub record HasCause (manner : Manner) (m : Machine) (count : ℕ) (runs : ℕ → List Run) (e : PmEvent) : Type 0 where
  pub slot : ℕ
  pub near : slot < count
  pub run : Run
  pub its : Contains (runs slot) run
  pub ended : ends e ≡ ended_of run.child ∷ []
  pub blamed : IsBlamed manner m run

-- ---- where

-- no fault of the disk was noted
abbrev pub IsUnbroken : List BookEntry → Type 0
IsUnbroken book = AllByRecursion (λ entry. is_break entry ≡ false) book

-- What a run of a server left, that nobody asked to kill a child or to stop at once, over a disk that didn't fail: its moves, its
-- board, and what its workers and its own side noted.
pub record IsUnprovoked (limits : Limits) (manner : Manner) (count : ℕ) (moves : List Move) (board : RosterView MailTold) (own : List Noted) (book : List BookEntry) : Type 0 where
  pub legal : IsLegal limits any_moment (journal_of count moves)
  pub unasked : AllByRecursion IsUnasked (journal_of count moves)
  pub unbroken : IsUnbroken book
  pub board_is : IsBoardOf count moves board
  pub left : AreLeft manner count board own book
  pub once : AreUsedOnce board
