-- What the tests know of a board of at least nine slots, of which the fifth is driven.
use Rattle.std.specs.Prelude.{◌≡◌, ◌≢◌, ◌≤◌, ℕ, Bool, length}
use Rattle.pm_board.specs.{pm_exit.declared.child.{Kind.Kind, Status.Status}, pm_board_words.declared.views.{Offer.Offer, RosterView.RosterView, Sight.{Sight, TheVariants.{Unused, Assigned, Exited}}}, Places.{slot_at, SlotServes}}

-- this is what the supervisor sees of the driven slot, the others are unused, and this is the last pid
pub record Sees (d : RosterView ℕ) (sight : Sight ℕ) (last : ℕ) : Type 0 where
  pub count : 9 ≤ length d.slots
  pub driven : (slot_at d 4).sight ≡ sight
  pub others : (k : ℕ) → k ≢ 4 → (slot_at d k).sight ≡ Unused
  pub last_pid : d.notes.last_pid ≡ last

-- no slot has a child
abbrev pub IsFree : RosterView ℕ → ℕ → Type 0
IsFree d last = Sees d Unused last

-- the driven slot has a child
abbrev pub IsBusy : RosterView ℕ → ℕ → Type 0
IsBusy d last = (o : Offer ℕ) × Sees d (Assigned o) last

-- a look has found it exited
abbrev pub HasExited : RosterView ℕ → ℕ → Type 0
HasExited d last = (o : Offer ℕ) × (status : Status) × (active : Bool) × Sees d (Exited o status active) last

-- a slot serves this kind on every board of at least so many slots
abbrev pub ServesFrom : ℕ → ℕ → Kind → Type 0
ServesFrom least slot kind = (count : ℕ) → least ≤ count → SlotServes count slot kind
