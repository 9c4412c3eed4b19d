-- What a roster knows, beside a seating.
use Rattle.std.specs.Prelude.{◌≡◌, ℕ, ◌<◌, ◌≤◌, List, [], ◌∷◌, map, Option, Some, None, length, slice_index_or}
use Rattle.pm_board.specs.{pm_exit.declared.child.Kind.Kind, pm_board_words.declared.views.{Offer.Offer, PastChild.PastChild, RosterStep.RosterStep, RosterView.RosterView, Sight.{Sight, TheVariants.{Unused, Assigned}}}, Children.children_of, Places.slot_at, Told.after_step}
use Rattle.pm_supervisor_journal.specs.declared.roll.Enrolled.{Enrolled}
use Rattle.pm_board_acts.specs.Seating.{Seating, Begun, Ended}

-- a child of a slot, as one of the supervisor's roll
abbrev pub enrolled : Option (ℕ × Kind) → Option Enrolled
enrolled None = None
enrolled (Some c) = Some (record { pid = c.0; kind = c.1 })

-- the seat k
abbrev pub seat_at : ℕ → List (Option Enrolled) → Option Enrolled
seat_at k seats = slice_index_or seats k None

module _ {D : Type 0} where
  -- who sits where, as the roster sees it
  abbrev pub seats_of : RosterView D → List (Option Enrolled)
  seats_of d = map enrolled (children_of d.slots)

  -- the supervisor sees the child, whose end no look has found, in this generation; or it sees that there is none
  abbrev pub SeenAs : ℕ → Option Enrolled → Sight D → Type 0
  SeenAs generation None sight = sight ≡ Unused
  SeenAs generation (Some c) sight =
      (o : Offer D) × (sight ≡ Assigned o) × (o.pid ≡ c.pid) × (o.kind ≡ c.kind) × (o.generation ≡ generation)

  -- the roster sees this seating
  pub record Shows (d : RosterView D) (s : Seating) : Type 0 where
    pub count : length s.seats ≡ length d.slots
    pub few : length s.seats ≤ 407
    pub generation : d.generation ≡ s.generation
    pub each : (k : ℕ) → k < length s.seats → SeenAs s.generation (seat_at k s.seats) (slot_at d k).sight

  -- the roster after steps that change no slot
  abbrev pub after_steps : RosterView D → List RosterStep → RosterView D
  after_steps d [] = d
  after_steps d (s ∷ ss) = after_steps (after_step d s) ss

  -- a child that was released, as it began and as it ended
  abbrev pub begun_of : PastChild D → Begun
  begun_of x = record { pid = x.offer.pid; kind = x.offer.kind; generation = x.offer.generation }

  abbrev pub ended_of : PastChild D → Ended
  ended_of x = record { pid = x.offer.pid; kind = x.offer.kind; status = x.status; was_active = x.was_active }

-- the one that sits there, as it began
abbrev pub sitting : ℕ → Option Enrolled → List Begun
sitting generation None = []
sitting generation (Some c) = record { pid = c.pid; kind = c.kind; generation = generation } ∷ []
