-- Journal, book, board, console, port and the runs of children agree.
use Rattle.std.specs.{Prelude.{◌≡◌, ◌≢◌, ℕ, ◌+◌, ◌≤◌, Bool, true, List, [], ◌∷◌, ◌++◌, length, codes, Option, IfSome}, List.{AllByRecursion, Contains}}
use Rattle.pm_state.specs.{pm_modes.declared.Mode.Mode, pm_supervisor.Children.one_if, declared.event.PmEvent.PmEvent}
use Rattle.pm_state.specs.pm_modes.declared.Mode.TheVariants as mode
use Rattle.pm_state.specs.declared.event.PmEvent.TheVariants as entry
use Rattle.pm_worker.specs.{pm_outside.Visits.{Visit, Visits}, pm_query.declared.book.BookEntry.BookEntry, pm_board.pm_board_words.declared.views.RosterView.RosterView}
use Rattle.pm_supervisor_chain.specs.{Chain.{RedosEnd, UsersWereStarted, AttachOnce, attached_of}}
use Rattle.pm_board_acts.specs.Seating.{Move, Notes, Reads, PortEnds, PidsEnd, Request, Nothing, Stop, Kill}

-- ---- journal and book

-- Journal and book tell of the same ends of redo and of the same children; whom a renewal took out is told beside it.
pub record IsChainedLoosely (journal : List PmEvent) (book : List BookEntry) : Type 0 where
  pub redos_end : RedosEnd journal book
  pub users : UsersWereStarted journal book
  pub once : AttachOnce (attached_of book)

-- ---- requests

abbrev pub mode_word : Mode → List ℕ
mode_word mode.Smart = codes "smart"
mode_word mode.Fast = codes "fast"
mode_word mode.Immediate = codes "immediate"

module _ (IsNumber : List ℕ → ℕ → Type 0) where
  -- the line asks to kill this child, by one to ten digits
  pub record IsKillLine (line : List ℕ) (pid : ℕ) : Type 0 where
    pub digits : List ℕ
    pub is : line ≡ codes "kill " ++ digits
    pub number : IsNumber digits pid

  -- a line asks for this
  abbrev pub AsksFor : List ℕ → Request → Type 0
  AsksFor line (Stop how) = line ≡ mode_word how
  AsksFor line (Kill pid) = IsKillLine line pid
  AsksFor line Nothing = ((how : Mode) → line ≢ mode_word how) × ((pid : ℕ) → ¬ (IsKillLine line pid))

  abbrev pub IsReadAs : Move → Type 0
  IsReadAs (Reads line asks at) = AsksFor line asks
  IsReadAs _ = Unit {0}

-- requests stand in no other move
abbrev pub IsUnasked : Move → Type 0
IsUnasked (Notes (entry.Asked how at) slot) = ⊥
IsUnasked (Notes (entry.KillAsked pid) slot) = ⊥
IsUnasked _ = Unit {0}

abbrev pub lines_in : List Move → List (List ℕ)
lines_in [] = []
lines_in (Reads line asks at ∷ moves) = line ∷ lines_in moves
lines_in (_ ∷ moves) = lines_in moves

abbrev pub port_ends_in : List Move → ℕ
port_ends_in [] = 0
port_ends_in (PortEnds at ∷ moves) = 1 + port_ends_in moves
port_ends_in (_ ∷ moves) = port_ends_in moves

abbrev pub pids_end_in : List Move → ℕ
pids_end_in [] = 0
pids_end_in (PidsEnd at ∷ moves) = 1 + pids_end_in moves
pids_end_in (_ ∷ moves) = pids_end_in moves

-- The requests are those of the console's lines, in order, one at the port's end and one for the last pid. Where memory was
-- short, the last of these may be missing.
pub record AsksAsTold (IsNumber : List ℕ → ℕ → Type 0) (moves : List Move) (lines : List (List ℕ)) (ended spent short : Bool) : Type 0 where
  pub unread : List (List ℕ)
  pub lines_are : lines ≡ lines_in moves ++ unread
  pub read : AllByRecursion (IsReadAs IsNumber) moves
  pub alone : AllByRecursion IsUnasked moves
  pub missing : Bool
  pub port : port_ends_in moves ≤ one_if ended
  pub pids : pids_end_in moves ≤ one_if spent
  pub all : length lines + (one_if ended + one_if spent) ≡ (length (lines_in moves) + (port_ends_in moves + pids_end_in moves)) + one_if missing
  pub why : missing ≡ true → short ≡ true

-- ---- links

abbrev pub pids_accepted : List PmEvent → List ℕ
pids_accepted [] = []
pids_accepted (entry.Accepted pid decision ∷ journal) = pid ∷ pids_accepted journal
pids_accepted (_ ∷ journal) = pids_accepted journal

-- the n-th link that the port gave is that of the n-th connection accepted, and each came back once
pub record LinksCameBack (journal : List PmEvent) (visits : Visits) : Type 0 where
  pub given : length visits.given ≡ length (pids_accepted journal)
  pub back : length visits.back ≡ length visits.given
  pub each : (n : ℕ) → 1 ≤ n → n ≤ length visits.given → (visit : Visit) × Contains visits.back visit × (visit.number ≡ n)
