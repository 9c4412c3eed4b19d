-- What a look at a slot comes to.
use Rattle.std.specs.Prelude.{◌≡◌, ◌⊎◌, ℕ, ◌<◌}
use Rattle.pm_supervisor_journal.specs.declared.roll.Enrolled.{Enrolled}
use Rattle.pm_board.specs.{pm_board_words.declared.views.{Offer.Offer, RosterView.RosterView, Sight.TheVariants.Assigned}, declared.roster.Released.Released, Places.{EndsWell, IsReaped, slot_at}, Told.{running_slot, released_slot, past_child, noted_look, noted_release}, Models.SlotBecame}
use Rattle.pm_board.specs.pm_board_words.declared.views.Letter as Letter

module _ {D : Type 0} where
  -- this child sits in the slot k
  pub record Sits (k : ℕ) (c : Enrolled) (d : RosterView D) : Type 0 where
    pub offer : Offer D
    pub sight : (slot_at d k).sight ≡ Assigned offer
    pub pid : offer.pid ≡ c.pid
    pub kind : offer.kind ≡ c.kind
    pub generation : offer.generation ≡ d.generation

  -- Since the last connection was accepted a look has found the child of each of the first n slots running, where that was
  -- there then. After a look at each slot a connection may be accepted.
  abbrev pub AreReaped : ℕ → RosterView D → Type 0
  AreReaped n d = (k : ℕ) → k < n → IsReaped d.notes.last_connection (slot_at d k) (slot_at d k).sight

  -- no child was released
  abbrev pub KeepsPast : RosterView D → RosterView D → Type 0
  KeepsPast before after = (k : ℕ) → (slot_at after k).past ≡ (slot_at before k).past

  -- the child of the slot k was found running
  pub record StillRuns (k : ℕ) (c : Enrolled) (before after : RosterView D) : Type 0 where
    pub sits : Sits k c before
    pub word : ℕ
    pub became : SlotBecame k (running_slot (slot_at before k) sits.offer before.notes.last_connection) (noted_look before.notes word) before after

  -- no end was found in the slot k: nobody sits there, or the child runs
  abbrev pub HasFoundNone : ℕ → RosterView D → RosterView D → Type 0
  HasFoundNone k before after = (after ≡ before) ⊎ ((c : Enrolled) × StillRuns k c before after)

module _ {J D : Type 0} (letter : Letter.Ghosts J D) where
  -- the child of the slot k was found ended, and was released: its slot is unused, and it stands last among those of the slot
  pub record HasReaped (k : ℕ) (c : Enrolled) (released : Released J) (before after : RosterView D) : Type 0 where
    pub sits : Sits k c before
    pub pid : released.pid ≡ c.pid
    pub kind : released.kind ≡ c.kind
    pub word : ℕ
    pub became :
        SlotBecame k
        (released_slot (slot_at before k) (past_child sits.offer released.status released.was_active (letter.told released.job)))
        (noted_release (noted_look before.notes word) sits.offer) before after
    -- its mail may come back from such a child, and it has let go of what it shared where it ended well
    pub back : letter.comes_back released.job released.kind released.status released.was_active
    pub well : EndsWell released.kind released.status released.was_active
