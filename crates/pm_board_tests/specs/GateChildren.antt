-- What the tests know of a board of fifteen slots, and of the child that runs on a post.
use Rattle.std.specs.Prelude.{◌≡◌, ◌≢◌, ℕ, ◌<◌, ◌≤◌, true, false, [], None, length}
use Rattle.pm_board.specs.{pm_exit.declared.child.Kind.Kind, pm_supervisor.Children.is_dead_end, pm_board_words.declared.views.{Offer.Offer, RosterView.RosterView, Sight.TheVariants.{Unused, Assigned}, Work.{Work, TheVariants.{Inactive, Attached}}}, Places.{slot_at, slot_view, is_auxiliary}, Gate.{Gate, gate_of}}

-- the slots from low to below high have a child each, all others are unused, and this is the last pid
pub record HasChildren (low high last : ℕ) (d : RosterView ℕ) : Type 0 where
  pub count : length d.slots ≡ 15
  pub below : (k : ℕ) → k < low → (slot_at d k).sight ≡ Unused
  pub within : (k : ℕ) → low ≤ k → k < high → (o : Offer ℕ) × ((slot_at d k).sight ≡ Assigned o)
  pub above : (k : ℕ) → high ≤ k → (slot_at d k).sight ≡ Unused
  pub last_pid : d.notes.last_pid ≡ last

-- no slot has a child
abbrev pub IsEmpty : ℕ → RosterView ℕ → Type 0
IsEmpty last d = HasChildren 0 0 last d

-- no slot has ever had one
pub record IsUntouched (d : RosterView ℕ) : Type 0 where
  pub count : length d.slots ≡ 15
  pub each : (k : ℕ) → slot_at d k ≡ slot_view [] Unused
  pub last_pid : d.notes.last_pid ≡ 0

-- the gate of this generation, before it is opened and after that
abbrev pub shut_gate : ℕ → Gate
shut_gate generation = record { generation = generation; is_open = false; noticed = None }

abbrev pub open_gate : ℕ → Gate
open_gate generation = record { generation = generation; is_open = true; noticed = None }

-- no slot has a child, and nothing was done at the gate of this generation
pub record IsBetween (generation last : ℕ) (d : RosterView ℕ) : Type 0 where
  pub empty : IsEmpty last d
  pub gate : gate_of d ≡ shut_gate generation

-- the slot k alone was changed: number of slots, every other slot and the gate are as before, and this is the last pid
pub record IsAtSlot (k last : ℕ) (before after : RosterView ℕ) : Type 0 where
  pub count : length after.slots ≡ length before.slots
  pub others : (j : ℕ) → j ≢ k → slot_at after j ≡ slot_at before j
  pub gate : gate_of after ≡ gate_of before
  pub last_pid : after.notes.last_pid ≡ last

-- the slot k has a child of this pid now
abbrev pub HasBegun : ℕ → ℕ → RosterView ℕ → RosterView ℕ → Type 0
HasBegun k pid before after = IsAtSlot k pid before after × ((o : Offer ℕ) × ((slot_at after k).sight ≡ Assigned o))

-- the child of the slot k was released
abbrev pub HasReaped : ℕ → RosterView ℕ → RosterView ℕ → Type 0
HasReaped k before after = IsAtSlot k before.notes.last_pid before after × ((slot_at after k).sight ≡ Unused)

-- the slot k alone was changed, this is the last pid, and its child was released
abbrev pub HasVisited : ℕ → ℕ → RosterView ℕ → RosterView ℕ → Type 0
HasVisited k pid before after = IsAtSlot k pid before after × ((slot_at after k).sight ≡ Unused)

-- a child of this kind runs that isn't at the gate
abbrev pub RunsKind : Kind → Work ℕ → Type 0
RunsKind kind work = (o : Offer ℕ) × (work ≡ Inactive o) × (o.kind ≡ kind)

-- a child of this kind goes to the gate as a session
abbrev pub ServesSession : Kind → Type 0
ServesSession kind = (is_dead_end kind ≡ false) × (is_auxiliary kind ≡ false)

-- such a child runs, outside the gate or attached in this generation
abbrev pub RunsSession : Work ℕ → Type 0
RunsSession work = (o : Offer ℕ) × (work ≡ Inactive o) × ServesSession o.kind

abbrev pub IsAttachedSession : ℕ → Work ℕ → Type 0
IsAttachedSession generation work = (o : Offer ℕ) × (work ≡ Attached o generation) × ServesSession o.kind
