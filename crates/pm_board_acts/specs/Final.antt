-- What comes after the last entry: the final Kill, and the last releases.
use Rattle.std.specs.Prelude.{◌≡◌, ℕ, ◌<◌, ◌≤◌, Bool, true, false, List, map, None, length, slice_set}
use Rattle.pm_board.specs.{pm_supervisor.declared.Limits.Limits, pm_board_words.declared.views.{RosterView.RosterView, Sight.TheVariants.Unused}, Places.slot_at}
use Rattle.pm_board.specs.pm_board_words.declared.views.Letter as Letter
use Rattle.pm_supervisor_journal.specs.{declared.roll.Enrolled.Enrolled, Stands.{AtWork, highest_pid}}
use Rattle.pm_board_acts.specs.{declared.finish.Rest.Rest, Board.{begun_of, seat_at, seats_of}, Calls.IsCutOff, Seating.{Move, Seating, begun_at}, Sitting.{HasReaped, StillRuns}, Standing.{IsAt, IsBoardOf, IsEnding, view}}
use Rattle.pm_board_acts.specs.declared.finish.Rest.TheVariants as rest

module _ {D : Type 0} where
  -- who sits where, as the roster sees it
  abbrev pub seen : RosterView D → Seating
  seen d = record { seats = seats_of d; generation = d.generation }

  -- after these moves nothing is noted any more
  abbrev pub IsEndingAt : ℕ → List Move → RosterView D → Type 0
  IsEndingAt count moves d = IsEnding count moves d (seen d)

  -- nobody sits in the first n slots
  abbrev pub AreFree : ℕ → RosterView D → Type 0
  AreFree n d = (k : ℕ) → k < n → seat_at k (seats_of d) ≡ None

  abbrev pub NobodySits : RosterView D → Type 0
  NobodySits d = AreFree (length (seats_of d)) d

  -- Whatever the moves are after which nothing is noted any more, they stay those. No child is assigned.
  pub record KeepsEnding (before after : RosterView D) : Type 0 where
    pub ending : (count : ℕ) (moves : List Move) → IsEndingAt count moves before → IsEndingAt count moves after
    pub last_pid : after.notes.last_pid ≡ before.notes.last_pid

abbrev pub is_running : {J : Type 0} → Rest J → Bool
is_running rest.Running = true
is_running _ = false

module _ {J D : Type 0} (letter : Letter.Ghosts J D) (slot : ℕ) where
  -- a look at the slot, after the last entry
  abbrev pub HasFound : Rest J → RosterView D → RosterView D → Type 0
  HasFound rest.Nobody before after = (seat_at slot (seats_of before) ≡ None) × (after ≡ before)
  HasFound rest.Running before after = (c : Enrolled) × StillRuns slot c before after × (seats_of after ≡ seats_of before)
  HasFound (rest.Gone released) before after =
      (c : Enrolled) × HasReaped letter slot c released before after × (seats_of after ≡ slice_set (seats_of before) slot None)

-- ---- laws

-- From each moment a supervisor may end: what it has noted stays all that was noted, and pids are left to close each worker.
pub record MayEndAnywhere (D : Type 0) : Type 0 where
  pub at :
      (limits : Limits) (count : ℕ) (moves : List Move) (work : AtWork) (d : RosterView D) → IsAt limits count moves (view work d)
      → IsEndingAt count moves d × (d.notes.last_pid ≤ highest_pid)
  -- also where memory was short for an entry
  pub cut_off :
      (limits : Limits) (count : ℕ) (moves : List Move) (work now : AtWork) (d e : RosterView D) → IsAt limits count moves (view work d)
      → IsCutOff (view work d) (view now e) → IsEndingAt count moves e × (e.notes.last_pid ≤ highest_pid)

-- once nobody sits anywhere
pub record EndsWithNobody (D : Type 0) : Type 0 where
  pub board : (count : ℕ) (moves : List Move) (d : RosterView D) → IsEndingAt count moves d → NobodySits d → IsBoardOf count moves d
  -- the children that were released are those that the moves tell of, and no others
  pub exact :
      (count : ℕ) (moves : List Move) (d : RosterView D) → IsEndingAt count moves d → NobodySits d
      → (k : ℕ) → map begun_of (slot_at d k).past ≡ begun_at count k moves
  pub unused :
      (count : ℕ) (moves : List Move) (d : RosterView D) → IsEndingAt count moves d → NobodySits d
      → (k : ℕ) → (slot_at d k).sight ≡ Unused
