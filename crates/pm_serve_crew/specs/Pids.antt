-- The pids of the children that slots have had.
use Rattle.std.specs.{Prelude.{◌≡◌, ◌≢◌, ℕ, List, map}, List.AllByRecursion}
use Rattle.pm_board_acts.specs.{pm_board.{pm_board_words.declared.views.RosterView.RosterView, Places.slot_at}, pm_supervisor_chain.Chain.{AreDistinct, IsPidOf}, pm_worker.{declared.mail.MailTold.MailTold, Runs.Run}}
use Rattle.pm_session_answers.specs.{pm_query.declared.book.BookEntry.BookEntry, Own.entries_by}

-- of the children of the slot k that were released
abbrev pub pids_at : RosterView MailTold → ℕ → List ℕ
pids_at d k = map (λ child. child.offer.pid) (slot_at d k).past

-- no two children had one pid
pub record AreUsedOnce (d : RosterView MailTold) : Type 0 where
  pub within : (k : ℕ) → AreDistinct (pids_at d k)
  pub across : (j k pid : ℕ) → j ≢ k → IsPidOf pid (pids_at d j) → IsPidOf pid (pids_at d k) → ⊥

-- the entries that the book has of each of these children are those that its run noted
abbrev pub AreEntriesOf : List BookEntry → List Run → Type 0
AreEntriesOf book runs = AllByRecursion (λ run. entries_by run.child.offer.pid book ≡ run.noted) runs
