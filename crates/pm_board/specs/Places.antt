-- Which slot serves which kind of child, and when a child may be assigned.
use Rattle.std.specs.Prelude.{◌≡◌, ℕ, ◌+◌, ◌<◌, ◌≤◌, Bool, true, false, ◌==◌, ◌&&◌, List, [], ◌∷◌, length, slice_index_or}
use Rattle.pm_exit.specs.{declared.child.{Kind.Kind, Status.Status}, Ends.is_exit_0}
use Rattle.pm_exit.specs.declared.child.Kind.TheVariants as kind
use Rattle.pm_board_words.specs.{declared.views.{Offer.Offer, PastChild.PastChild, Sight.{Sight, TheVariants.{Unused, Opened, Assigned, Exited, Collected, Gathered}}, SlotView.SlotView, RosterView.RosterView}, Words.bit}

-- The slots 0 to 2 are those of startup child, checkpointer and writer, the last four those of dead-end children, and
-- those between serve sessions. A dead-end child fits every slot.
abbrev pub SlotServes : ℕ → ℕ → Kind → Type 0
SlotServes count slot kind.Startup = slot ≡ 0
SlotServes count slot kind.Checkpointer = slot ≡ 1
SlotServes count slot kind.Writer = slot ≡ 2
SlotServes count slot kind.DeadEnd = Unit {0}
SlotServes count slot _ = (3 ≤ slot) × (slot + 4 < count)

-- startup child, checkpointer or writer
abbrev pub is_auxiliary : Kind → Bool
is_auxiliary kind.Startup = true
is_auxiliary kind.Checkpointer = true
is_auxiliary kind.Writer = true
is_auxiliary _ = false

-- it answers a connection
abbrev pub is_connection : Kind → Bool
is_connection kind.Backend = true
is_connection kind.DeadEnd = true
is_connection _ = false

-- an auxiliary child that ends well has let go of what it shared
abbrev pub EndsWell : Kind → Status → Bool → Type 0
EndsWell kind status was_active = is_auxiliary kind ≡ true → was_active ≡ true → is_exit_0 status ≡ false

module _ {D : Type 0} where
  -- a slot with its released children and what the supervisor sees of it, whose child no look has found running yet
  abbrev pub slot_view : List (PastChild D) → Sight D → SlotView D
  slot_view past sight = record { past = past; sight = sight; found_running = 0 }

  -- the slot k
  abbrev pub slot_at : RosterView D → ℕ → SlotView D
  slot_at d k = slice_index_or d.slots k (slot_view [] Unused)

  -- how many children of such a kind exited attached in this generation
  abbrev pub lost : (Kind → Bool) → ℕ → List (PastChild D) → ℕ
  lost test generation [] = 0
  lost test generation (x ∷ xs) = bit (x.was_active && ((x.offer.generation == generation) && test x.offer.kind)) + lost test generation xs

  abbrev pub is_used : Sight D → Bool
  is_used Unused = false
  is_used (Opened q) = false
  is_used (Assigned o) = true
  is_used (Exited o status active) = true
  is_used (Collected o status active) = true
  is_used (Gathered past notes) = false

  -- how many slots have a child
  abbrev pub used_in : List (SlotView D) → ℕ
  used_in [] = 0
  used_in (x ∷ xs) = bit (is_used x.sight) + used_in xs

  -- since the last connection a look has found this child running, where it was assigned no later than that
  abbrev pub IsReaped : ℕ → SlotView D → Sight D → Type 0
  IsReaped last x (Assigned o) = o.pid ≤ last → x.found_running ≡ last
  IsReaped last x (Exited o status active) = last < o.pid
  IsReaped last x _ = Unit {0}

  -- no connection is decided on an exit that nobody has reaped: each child that was assigned up to the last connection was
  -- released, or was found running by a look since then
  abbrev pub AllReaped : RosterView D → Type 0
  AllReaped d = (k : ℕ) → k < length d.slots → IsReaped d.notes.last_connection (slot_at d k) (slot_at d k).sight

  -- a child of this pid and kind may be assigned to the slot k
  pub record MayAssign (d : RosterView D) (k pid : ℕ) (kind : Kind) : Type 0 where
    pub slot : k < length d.slots
    pub unused : (slot_at d k).sight ≡ Unused
    pub new : d.notes.last_pid < pid
    pub fits : pid < 2147483648
    pub serves : SlotServes (length d.slots) k kind
    -- an auxiliary child whose forerunner died attached waits for the next generation
    pub forerunners : is_auxiliary kind ≡ true → lost is_auxiliary d.generation (slot_at d k).past ≡ 0
    pub reaped : is_connection kind ≡ true → AllReaped d

  -- the slot k has a child, whose end no look has found
  abbrev pub IsAssigned : RosterView D → ℕ → Type 0
  IsAssigned d k = (k < length d.slots) × ((o : Offer D) × ((slot_at d k).sight ≡ Assigned o))

  -- a look has found that the child of the slot k has exited
  abbrev pub HasEnded : RosterView D → ℕ → Type 0
  HasEnded d k =
      (k < length d.slots) × ((o : Offer D) × (status : Status) × (active : Bool) × ((slot_at d k).sight ≡ Exited o status active))
