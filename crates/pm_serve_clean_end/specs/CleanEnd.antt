-- What a clean end of a server of many connections leaves.
use Rattle.std.specs.{Prelude.{◌≡◌, ◌≢◌, ℕ, true, All, List, [], ◌∷◌, ◌++◌, IfSome}, List.list_any}
use Rattle.pm_serve_crew.specs.{pm_board.pm_board_words.declared.views.RosterView.RosterView, Left.{AreLeft, Manner}, Pids.AreUsedOnce, Redos.RedosAreThose, Renewals.RenewsAsTold, pm_supervisor_journal.Stands.any_moment, pm_modes.declared.Mode.TheVariants.Immediate, pm_query.{declared.book.BookEntry.BookEntry, Book.{Base, history_of}}, pm_board_acts.{Seating.{Move, journal_of}, Standing.IsBoardOf}, pm_store_shared.declared.views.Noted.Noted, pm_state.{declared.event.PmEvent.PmEvent, Journal.IsLegal}, pm_supervisor.declared.{Ending.TheVariants.Clean, Limits.Limits}, pm_worker.declared.mail.MailTold.MailTold}
use Rattle.pm_store_remains.specs.{Remains.IsLeft, pm_server.{Journal.asked_in, Story.AreLeftClean, Views.DiskView}}
use Rattle.pm_serve_crew.specs.pm_state.declared.event.PmEvent.TheVariants as entry
use Rattle.pm_serve_clean_end.specs.Latest.{ends_redo, latest}

-- The server ended clean, no immediate shutdown was asked for, and redo had ended in its last generation. A shutdown that is asked
-- for before redo has ended leaves the files as they are.
pub record HasEndedClean (journal : List PmEvent) : Type 0 where
  pub front : List PmEvent
  pub last : journal ≡ front ++ entry.Ended Clean ∷ []
  pub not_immediate : All (λ mode. mode ≢ Immediate) (asked_in journal)
  pub redone : list_any ends_redo (latest journal) ≡ true

-- Then the files mean all commits of the history, and the log says that it is clean; so does whatever a stop leaves.
abbrev pub EndsClean : List PmEvent → Base → List BookEntry → DiskView → Type 0
EndsClean journal base book now = HasEndedClean journal → IfSome now.files (AreLeftClean (history_of base book) now)

-- ---- what a run leaves that the law goes by

-- The journal of these moves is legal, the steps at the board are theirs, and each worker's runs are the children of its slot; the
-- book is what they and the shared side noted, with the generations and the ends of redo of the journal; and this is left of the store.
pub record IsLeftBy (limits : Limits) (manner : Manner) (count : ℕ) (moves : List Move) (d : RosterView MailTold) (own : List Noted) (book : List BookEntry) (before now : DiskView) : Type 0 where
  pub legal : IsLegal limits any_moment (journal_of count moves)
  pub board : IsBoardOf count moves d
  pub left : AreLeft manner count d own book
  pub once : AreUsedOnce d
  pub renewals : RenewsAsTold (journal_of count moves) own
  pub redos : RedosAreThose moves d
  pub remains : IsLeft before now book
