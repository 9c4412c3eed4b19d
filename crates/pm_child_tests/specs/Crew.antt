-- What the tests know of a board of 47 slots.
use Rattle.std.specs.Prelude.{◌≡◌, ◌≢◌, ℕ, ◌<◌, ◌≤◌, [], length}
use Rattle.pm_board.specs.{pm_board_words.declared.views.{RosterView.RosterView, Sight.{Sight, TheVariants.{Unused, Opened, Assigned, Exited, Collected, Gathered}}}, Places.{slot_at, slot_view, IsReaped}}

module _ {D : Type 0} where
  -- no look has found the end of its child, if it has one
  abbrev pub IsSettled : Sight D → Type 0
  IsSettled Unused = Unit {0}
  IsSettled (Assigned o) = Unit {0}
  IsSettled (Opened q) = ⊥
  IsSettled (Exited o status active) = ⊥
  IsSettled (Collected o status active) = ⊥
  IsSettled (Gathered past notes) = ⊥

  -- each of the 47 slots is so
  pub record IsManned (d : RosterView D) : Type 0 where
    pub count : length d.slots ≡ 47
    pub settled : (k : ℕ) → IsSettled (slot_at d k).sight

  -- so many slots, from the first on, have had a child each, and the others none
  pub record IsFresh (d : RosterView D) (first : ℕ) : Type 0 where
    pub manned : IsManned d
    pub new : (k : ℕ) → first ≤ k → slot_at d k ≡ slot_view [] Unused
    pub last_pid : d.notes.last_pid ≡ first

  -- so many slots were looked at since the last connection
  pub record IsLookedOver (d : RosterView D) (first : ℕ) : Type 0 where
    pub manned : IsManned d
    pub reaped : (k : ℕ) → k < first → IsReaped d.notes.last_connection (slot_at d k) (slot_at d k).sight

  -- the slot k was looked at, and its child released if it has exited; all else is as before
  pub record HasLookedAt (k : ℕ) (before after : RosterView D) : Type 0 where
    pub count : length after.slots ≡ length before.slots
    pub others : (j : ℕ) → j ≢ k → slot_at after j ≡ slot_at before j
    pub settled : IsSettled (slot_at after k).sight
    pub reaped : IsReaped after.notes.last_connection (slot_at after k) (slot_at after k).sight
    pub last_pid : after.notes.last_pid ≡ before.notes.last_pid
    pub last_connection : after.notes.last_connection ≡ before.notes.last_connection
    pub is_open : after.is_open ≡ before.is_open
