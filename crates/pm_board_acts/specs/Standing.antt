-- What holds of a supervisor at work with its board, at every moment.
use Rattle.std.specs.{Prelude.{◌≡◌, ℕ, ◌<◌, ◌≤◌, ◌==◌, if◌then◌else◌, List, [], ◌∷◌, ◌++◌, map, Option, Some, None, IfSome, length}, List.AllByRecursion}
use Rattle.pm_board.specs.{pm_exit.declared.child.Kind.Kind, pm_supervisor.{declared.Limits.Limits, Steps.Trace}, pm_board_words.declared.views.{SessionLimit.SessionLimit, RosterStep.RosterStep, RosterView.RosterView}, Places.{slot_at, SlotServes}, Told.new_roster, Gate.gate_of}
use Rattle.pm_board.specs.pm_exit.declared.child.Kind.TheVariants as kind
use Rattle.pm_board.specs.pm_board_words.declared.views.RosterStep.TheVariants as step
use Rattle.pm_board.specs.pm_board_words.declared.views.Signal.TheVariants as signal
use Rattle.pm_supervisor_journal.specs.{declared.roll.Enrolled.Enrolled, Roll.kind_in, Standing.{Standing, nothing_done}, Stands.{AtWork, Stands}}
use Rattle.pm_board_acts.specs.{Seating.{Move, Seating, Begun, Ended, child, journal_of, seating_of, board_steps, begun_at, ended_at}, Acts.{MayDo, StartsAfresh, gate_by, gate_shown}, Board.{Shows, begun_of, ended_of, seat_at, seats_of, sitting}}

-- what the child with this pid is for, if it sits somewhere
abbrev pub kind_seated : ℕ → List (Option Enrolled) → Option Kind
kind_seated pid [] = None
kind_seated pid (None ∷ seats) = kind_seated pid seats
kind_seated pid (Some c ∷ seats) = if c.pid == pid then Some c.kind else kind_seated pid seats

-- no two children of the roll have one pid
abbrev pub DifferOn : List Enrolled → Type 0
DifferOn [] = Unit {0}
DifferOn (c ∷ cs) = (kind_in c.pid cs ≡ None) × DifferOn cs

-- such a child may sit in the slot k of so many: in each of the first three its own kind
abbrev pub SeatServes : ℕ → ℕ → Kind → Type 0
SeatServes count k kind.DeadEnd = 3 ≤ k
SeatServes count k kind = SlotServes count k kind

-- nor have two that sit
abbrev pub SitApart : List (Option Enrolled) → Type 0
SitApart [] = Unit {0}
SitApart (None ∷ seats) = SitApart seats
SitApart (Some c ∷ seats) = (kind_seated c.pid seats ≡ None) × SitApart seats

-- who sits has no pid above this one
abbrev pub SitBelow : ℕ → List (Option Enrolled) → Type 0
SitBelow last seats = AllByRecursion (λ seat. IfSome seat (λ c. c.pid ≤ last)) seats

-- who sits somewhere is on the roll, and nobody else
pub record AreOnRoll (roll : List Enrolled) (seats : List (Option Enrolled)) (last : ℕ) : Type 0 where
  pub same : (pid : ℕ) → kind_in pid roll ≡ kind_seated pid seats
  pub differ : DifferOn roll
  pub apart : SitApart seats
  pub below : SitBelow last seats

-- a supervisor at work, its roster, and who sits where, as it has that at hand
pub record View (D : Type 0) : Type 0 where
  pub work : AtWork
  pub board : RosterView D
  pub seats : List (Option Enrolled)

-- the final kill of a child that sits here, releases, and the closing of the workers
abbrev pub IsFinal : List (Option Enrolled) → RosterStep → Type 0
IsFinal seats (step.Send slot pid kind signal.Kill generation) = seat_at slot seats ≡ Some (child pid kind)
IsFinal seats (step.Release pid kind generation) = Unit {0}
IsFinal seats (step.Assign slot pid kind.DeadEnd generation) = Unit {0}
IsFinal seats _ = ⊥

-- these children closed their workers
abbrev pub AreClosing : List Begun → Type 0
AreClosing others = AllByRecursion (λ b. b.kind ≡ kind.DeadEnd) others

-- each child that began in a slot is one that may sit there
abbrev pub BeginRightly : ℕ → List Move → Type 0
BeginRightly count moves = (k : ℕ) → AllByRecursion (λ b. SeatServes count k b.kind) (begun_at count k moves)

module _ {D : Type 0} where
  -- the children of each slot are those that the moves tell of, as they began and as they ended
  pub record HasHad (count : ℕ) (moves : List Move) (d : RosterView D) (s : Seating) : Type 0 where
    pub begun : (k : ℕ) → map begun_of (slot_at d k).past ++ sitting s.generation (seat_at k s.seats) ≡ begun_at count k moves
    pub ended : (k : ℕ) → map ended_of (slot_at d k).past ≡ ended_at k moves
    pub right : BeginRightly count moves

  -- the steps of the roster are those of these moves, and it sees who sits where after them
  pub record IsSeated (count : ℕ) (moves : List Move) (d : RosterView D) (seats : List (Option Enrolled)) (work : Standing) : Type 0 where
    pub seating : Seating
    pub is_that : seating ≡ seating_of count moves
    pub at_hand : seats ≡ seating.seats
    pub steps : d.notes.steps ≡ board_steps count moves
    pub shows : Shows d seating
    pub generation : work.generation ≡ seating.generation
    pub roll : AreOnRoll work.children seating.seats work.last_pid
    pub right : (k : ℕ) (c : Enrolled) → seat_at k seating.seats ≡ Some c → SeatServes (length seating.seats) k c.kind
    pub last_pid : d.notes.last_pid ≡ work.last_pid
    pub connection : d.notes.last_connection ≤ d.notes.last_pid
    pub had : HasHad count moves d seating

  abbrev pub view : AtWork → RosterView D → View D
  view work board = record { work = work; board = board; seats = seats_of board }

  -- these are the moves so far
  pub record IsAt (limits : Limits) (count : ℕ) (moves : List Move) (v : View D) : Type 0 where
    pub past : Trace
    pub stands : Stands limits (Some (journal_of count moves)) v.work.standing past
    pub told : IfSome v.work.told (λ entries. entries ≡ journal_of count moves)
    -- after the acts that are due the gate is as the supervisor has it
    pub gate : gate_by v.work.standing.due (gate_of v.board) ≡ gate_shown past.now.shared
    pub seated : IsSeated count moves v.board v.seats v.work.standing
    -- the acts that are due may be done, one after the other
    pub may : MayDo v.work.standing.due (gate_of v.board) v.work.standing.children
    -- there are slots for all kinds of children
    pub many : 7 < length v.seats
    pub afresh : StartsAfresh v.board v.work.standing.due v.work.standing.machine

  -- nothing was done yet, and the board is a new one of so many slots
  pub record IsUnbegun (limits : Limits) (count : ℕ) (v : View D) : Type 0 where
    pub standing : v.work.standing ≡ nothing_done limits
    pub told : IfSome v.work.told (λ entries. entries ≡ [])
    pub session_limit : SessionLimit
    pub posts : ℕ
    pub board : v.board ≡ new_roster count session_limit posts
    pub many : 7 < count
    pub few : count ≤ 407

  -- these moves more
  abbrev pub Goes : List Move → View D → View D → Type 0
  Goes more before now =
      (limits : Limits) (count : ℕ) (earlier : List Move) → IsAt limits count earlier before → IsAt limits count (earlier ++ more) now

  -- it has come to where it is from its start
  abbrev pub IsRunning : View D → Type 0
  IsRunning v = (limits : Limits) × (count : ℕ) × (moves : List Move) × IsAt limits count moves v

  -- ---- after the last entry

  -- Nothing is noted any more. The steps of the roster are those of these moves, and after them there are only final ones, for
  -- those that the moves leave; the children of each slot are those that the moves tell of, and no others; these sit there now.
  pub record IsEnding (count : ℕ) (moves : List Move) (d : RosterView D) (s : Seating) : Type 0 where
    pub last : List RosterStep
    pub steps : d.notes.steps ≡ board_steps count moves ++ last
    pub final : AllByRecursion (IsFinal (seating_of count moves).seats) last
    pub stay : (k : ℕ) (c : Enrolled) → seat_at k s.seats ≡ Some c → seat_at k (seating_of count moves).seats ≡ Some c
    pub shows : Shows d s
    pub begun : (k : ℕ) → map begun_of (slot_at d k).past ++ sitting s.generation (seat_at k s.seats) ≡ begun_at count k moves
    pub ended : (k : ℕ) → (others : List Ended) × (map ended_of (slot_at d k).past ≡ ended_at k moves ++ others)
    pub right : BeginRightly count moves

  -- The same of the children that were released, of which the last ones closed workers: at the end nobody sits anywhere.
  pub record IsBoardOf (count : ℕ) (moves : List Move) (d : RosterView D) : Type 0 where
    pub last : List RosterStep
    pub steps : d.notes.steps ≡ board_steps count moves ++ last
    pub final : AllByRecursion (IsFinal (seating_of count moves).seats) last
    pub begun : (k : ℕ) → (others : List Begun) × AreClosing others × (map begun_of (slot_at d k).past ≡ begun_at count k moves ++ others)
    pub ended : (k : ℕ) → (others : List Ended) × (map ended_of (slot_at d k).past ≡ ended_at k moves ++ others)
    pub right : BeginRightly count moves
