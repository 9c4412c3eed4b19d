-- Which child sits in which slot, as the entries of a journal leave it, and which steps at the board each entry is.
use Rattle.std.specs.{Prelude.{ℕ, ◌+◌, Bool, true, false, ◌==◌, if◌then◌else◌, List, [], ◌∷◌, ◌++◌, Option, Some, None, replicate, slice_set}, List.flat_map}
use Rattle.pm_board.specs.{pm_exit.declared.child.{Kind.Kind, Status.Status}, pm_supervisor.{Children.is_checkpointer, Steps.kind_for}, pm_board_words.declared.views.{RosterStep.RosterStep, Signal.Signal}}
use Rattle.pm_board.specs.pm_exit.declared.child.Kind.TheVariants as kind
use Rattle.pm_state.specs.{pm_modes.declared.Mode.Mode, declared.event.PmEvent.PmEvent}
use Rattle.pm_state.specs.pm_modes.declared.Mode.TheVariants as mode
use Rattle.pm_state.specs.declared.event.PmEvent.TheVariants as entry
use Rattle.pm_board.specs.pm_board_words.declared.views.RosterStep.TheVariants as step
use Rattle.pm_board.specs.pm_board_words.declared.views.Signal.TheVariants as signal
use Rattle.pm_supervisor_journal.specs.declared.roll.Enrolled.{Enrolled}
use Rattle.pm_board_acts.specs.declared.audience.Audience.{Audience, TheVariants.{Everyone, Stoppable, Checkpointer, One}}

-- who sits where, slot by slot, and the present generation
pub record Seating : Type 0 where
  pub seats : List (Option Enrolled)
  pub generation : ℕ

-- of so many slots none has a child
abbrev pub empty : ℕ → Seating
empty count = record { seats = replicate count None; generation = 1 }

abbrev pub child : ℕ → Kind → Enrolled
child pid kind = record { pid = pid; kind = kind }

-- the slot k has this child now, or none
abbrev pub with_seat : ℕ → Option Enrolled → Seating → Seating
with_seat k seat s = record s { seats = slice_set s.seats k seat }

-- ---- who is told

-- backends, workers, the writer and a startup child
abbrev pub is_stoppable : Kind → Bool
is_stoppable kind.Backend = true
is_stoppable kind.Worker = true
is_stoppable kind.Writer = true
is_stoppable kind.Startup = true
is_stoppable _ = false

abbrev pub is_meant : Audience → Enrolled → Bool
is_meant Everyone c = true
is_meant Stoppable c = is_stoppable c.kind
is_meant Checkpointer c = is_checkpointer c.kind
is_meant (One pid) c = c.pid == pid

-- somebody sits there who is meant
abbrev pub is_told : Audience → Option Enrolled → Bool
is_told who None = false
is_told who (Some c) = is_meant who c

abbrev pub send_to : Audience → Signal → (generation slot : ℕ) → Option Enrolled → List RosterStep
send_to who what generation slot None = []
send_to who what generation slot (Some c) = if is_meant who c then step.Send slot c.pid c.kind what generation ∷ [] else []

abbrev pub sends_from : Audience → Signal → (generation slot : ℕ) → List (Option Enrolled) → List RosterStep
sends_from who what generation slot [] = []
sends_from who what generation slot (seat ∷ seats) =
    send_to who what generation slot seat ++ sends_from who what generation (slot + 1) seats

-- one send to each child that is meant, by rising slot
abbrev pub sends : Audience → Signal → ℕ → List (Option Enrolled) → List RosterStep
sends who what generation seats = sends_from who what generation 0 seats

-- ---- what an entry is at the board

-- where it tells of a child that begins, that has the slot k
abbrev pub steps_of : (k : ℕ) → Seating → PmEvent → List RosterStep
steps_of k s (entry.Started pid kind) = step.Assign k pid kind s.generation ∷ []
steps_of k s (entry.Accepted pid decision) = step.Assign k pid (kind_for decision) s.generation ∷ []
steps_of k s (entry.Exited pid kind status was_active at) = step.Release pid kind s.generation ∷ []
steps_of k s (entry.Ready generation) = step.Ready generation ∷ []
steps_of k s (entry.Reset generation) = step.Reset generation ∷ []
steps_of k s (entry.QuitSent why) = step.Quit why s.generation ∷ sends Everyone (signal.Quit why) s.generation s.seats
steps_of k s entry.TerminateSent = sends Stoppable signal.Terminate s.generation s.seats
steps_of k s (entry.KillSent at) = sends Everyone signal.Kill s.generation s.seats
steps_of k s (entry.KillAsked pid) = sends (One pid) signal.Kill s.generation s.seats
steps_of k s entry.CheckpointAsked = sends Checkpointer signal.Checkpoint s.generation s.seats
steps_of k s _ = []

-- the seating after it, where the child that it tells of has the slot k
abbrev pub seated : ℕ → PmEvent → Seating → Seating
seated k (entry.Started pid kind) s = with_seat k (Some (child pid kind)) s
seated k (entry.Accepted pid decision) s = with_seat k (Some (child pid (kind_for decision))) s
seated k (entry.Exited pid kind status was_active at) s = with_seat k None s
seated k (entry.Reset generation) s = record s { generation = generation }
seated k _ s = s

-- ---- what the supervisor does, one thing after the other

-- what a line of the console asks for, if it asks for anything
pub data Request : Type 0 where
  Nothing : Request
  Stop : (how : Mode) → Request
  Kill : (pid : ℕ) → Request

pub data Move : Type 0 where
  -- an entry that nobody outside asked for; where it tells of a child, that has this slot
  Notes : (noted : PmEvent) → (slot : ℕ) → Move
  -- a line of the console was read, that asks for this, at this moment
  Reads : (line : List ℕ) → (asks : Request) → (at : ℕ) → Move
  -- the port gave its end for the first time
  PortEnds : (at : ℕ) → Move
  -- the last pid was drawn
  PidsEnd : (at : ℕ) → Move

-- the child with this pid, if it sits somewhere
abbrev pub is_seated : ℕ → List (Option Enrolled) → Bool
is_seated pid [] = false
is_seated pid (None ∷ seats) = is_seated pid seats
is_seated pid (Some c ∷ seats) = if c.pid == pid then true else is_seated pid seats

-- a kill counts where the child is there
abbrev pub asked_by : Request → ℕ → List (Option Enrolled) → List PmEvent
asked_by Nothing at seats = []
asked_by (Stop how) at seats = entry.Asked how at ∷ []
asked_by (Kill pid) at seats = if is_seated pid seats then entry.KillAsked pid ∷ [] else []

-- the entries of a move
abbrev pub entries_by : Seating → Move → List PmEvent
entries_by s (Notes noted k) = noted ∷ []
entries_by s (Reads line asks at) = asked_by asks at s.seats
entries_by s (PortEnds at) = entry.Asked mode.Smart at ∷ []
entries_by s (PidsEnd at) = entry.Asked mode.Smart at ∷ []

-- the slot that it tells of, if it tells of one
abbrev pub slot_in : Move → ℕ
slot_in (Notes noted k) = k
slot_in _ = 0

-- and the steps at the board
abbrev pub steps_by : Seating → Move → List RosterStep
steps_by s move = flat_map (steps_of (slot_in move) s) (entries_by s move)

abbrev pub seating_by : Seating → Move → Seating
seating_by s (Notes noted k) = seated k noted s
seating_by s _ = s

-- ---- all of them

abbrev pub entries_from : Seating → List Move → List PmEvent
entries_from s [] = []
entries_from s (move ∷ moves) = entries_by s move ++ entries_from (seating_by s move) moves

abbrev pub steps_from : Seating → List Move → List RosterStep
steps_from s [] = []
steps_from s (move ∷ moves) = steps_by s move ++ steps_from (seating_by s move) moves

abbrev pub seating_from : Seating → List Move → Seating
seating_from s [] = s
seating_from s (move ∷ moves) = seating_from (seating_by s move) moves

-- the journal of these moves, on a board of so many slots, and what they leave
abbrev pub journal_of : ℕ → List Move → List PmEvent
journal_of count moves = entries_from (empty count) moves

abbrev pub seating_of : ℕ → List Move → Seating
seating_of count moves = seating_from (empty count) moves

-- the steps at the board
abbrev pub board_steps : ℕ → List Move → List RosterStep
board_steps count moves = steps_from (empty count) moves

-- ---- the children of one slot

-- a child as it began
pub record Begun : Type 0 where
  pub pid : ℕ
  pub kind : Kind
  pub generation : ℕ

-- and as it ended
pub record Ended : Type 0 where
  pub pid : ℕ
  pub kind : Kind
  pub status : Status
  pub was_active : Bool

abbrev pub begins : ℕ → PmEvent → List Begun
begins generation (entry.Started pid kind) = record { pid = pid; kind = kind; generation = generation } ∷ []
begins generation (entry.Accepted pid decision) = record { pid = pid; kind = kind_for decision; generation = generation } ∷ []
begins generation _ = []

abbrev pub ends : PmEvent → List Ended
ends (entry.Exited pid kind status was_active at) = record { pid = pid; kind = kind; status = status; was_active = was_active } ∷ []
ends _ = []

abbrev pub begun_by : ℕ → Seating → Move → List Begun
begun_by k s (Notes noted j) = if j == k then begins s.generation noted else []
begun_by k s _ = []

abbrev pub ended_by : ℕ → Move → List Ended
ended_by k (Notes noted j) = if j == k then ends noted else []
ended_by k _ = []

-- the children that began in the slot k, in order
abbrev pub begun_from : ℕ → Seating → List Move → List Begun
begun_from k s [] = []
begun_from k s (move ∷ moves) = begun_by k s move ++ begun_from k (seating_by s move) moves

abbrev pub begun_at : ℕ → ℕ → List Move → List Begun
begun_at count k moves = begun_from k (empty count) moves

-- and those that ended there
abbrev pub ended_at : ℕ → List Move → List Ended
ended_at k moves = flat_map (ended_by k) moves
