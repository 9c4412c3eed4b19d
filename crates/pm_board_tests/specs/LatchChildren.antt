-- What the tests know of a board of nine slots.
use Rattle.std.specs.Prelude.{◌≡◌, ◌≢◌, ℕ, ◌+◌, ◌<◌, ◌≤◌, length}
use Rattle.pm_board.specs.{pm_board_words.declared.views.{Offer.Offer, RosterView.RosterView, Sight.TheVariants.{Unused, Assigned}, Work.{Work, TheVariants.Inactive}}, Places.slot_at}

-- nine slots, none of which has had a child
pub record IsNew (d : RosterView ℕ) : Type 0 where
  pub count : length d.slots ≡ 9
  pub unused : (k : ℕ) → (slot_at d k).sight ≡ Unused
  pub last_pid : d.notes.last_pid ≡ 0

-- a worker of this pid may be assigned to the slot k
pub record CanBegin (d : RosterView ℕ) (k pid : ℕ) : Type 0 where
  pub count : length d.slots ≡ 9
  pub slot : (3 ≤ k) × (k ≤ 4)
  pub unused : (slot_at d k).sight ≡ Unused
  pub new : d.notes.last_pid < pid
  pub fits : pid < 2147483648

-- the slot k has a child, whose end no look has found
pub record IsBusy (d : RosterView ℕ) (k : ℕ) : Type 0 where
  pub count : length d.slots ≡ 9
  pub slot : k < 9
  pub child : (o : Offer ℕ) × ((slot_at d k).sight ≡ Assigned o)

-- the slot k alone has changed
pub record Changed (k : ℕ) (before after : RosterView ℕ) : Type 0 where
  pub count : length after.slots ≡ length before.slots
  pub others : (j : ℕ) → j ≢ k → slot_at after j ≡ slot_at before j

-- it has a child of this pid now
pub record HasBegun (k pid : ℕ) (before after : RosterView ℕ) : Type 0 where
  pub changed : Changed k before after
  pub busy : IsBusy after k
  pub last_pid : after.notes.last_pid ≡ pid

-- it still has the child that it had
pub record HasStayed (k : ℕ) (before after : RosterView ℕ) : Type 0 where
  pub changed : Changed k before after
  pub busy : IsBusy after k
  pub last_pid : after.notes.last_pid ≡ before.notes.last_pid

-- it has none any more
pub record HasFinished (k : ℕ) (before after : RosterView ℕ) : Type 0 where
  pub changed : Changed k before after
  pub unused : (slot_at after k).sight ≡ Unused
  pub last_pid : after.notes.last_pid ≡ before.notes.last_pid

-- a child runs that isn't at the gate
abbrev pub IsRunning : Work ℕ → Type 0
IsRunning work = (o : Offer ℕ) × (work ≡ Inactive o)

-- of the slots 3 and 4 one is free and one has a child, and a child of this pid is the next
pub record TakesTurns (d : RosterView ℕ) (free busy pid : ℕ) : Type 0 where
  pub slots : (3 ≤ free) × (free ≤ 4) × (3 ≤ busy) × (busy ≤ 4) × (free ≢ busy)
  pub count : length d.slots ≡ 9
  pub unused : (slot_at d free).sight ≡ Unused
  pub child : (o : Offer ℕ) × ((slot_at d busy).sight ≡ Assigned o)
  pub last_pid : d.notes.last_pid + 1 ≡ pid

-- both slots have a child, and the supervisor waits for the end of that of the busy one
pub record Waits (d : RosterView ℕ) (free busy pid : ℕ) : Type 0 where
  pub slots : (3 ≤ free) × (free ≤ 4) × (3 ≤ busy) × (busy ≤ 4) × (free ≢ busy)
  pub given : IsBusy d free
  pub looked_at : IsBusy d busy
  pub last_pid : d.notes.last_pid ≡ pid
