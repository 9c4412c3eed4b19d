-- What children heard, as the seats know it.
use Rattle.std.specs.{Prelude.{◌≡◌, ℕ, ◌<◌, ◌⊎◌, true, List, length}, List.Contains}
use mathlib.Core.Option.{some}
use lib.ListN.{get_elem?}
use Rattle.pm_keys.specs.CancelKey.{cancel_key}
use Rattle.pm_board_words.specs.declared.views.{Cancel.Cancel, PastChild.PastChild, PostNotes.PostNotes, PostView.PostView, RosterView.RosterView, Sight.TheVariants.Gathered, View.{View, TheVariants.Worker}}
use Rattle.pm_board.specs.{Places.slot_at, Latches.{EachHeard, HeardRightly, doings_of}, Seats.is_gathered}

-- a cancel for this pid, that was made with its key under the seed of that call
abbrev pub IsCancelFor : ℕ → Cancel → Type 0
IsCancelFor pid x = (x.pid ≡ pid) × (x.key ≡ cancel_key x.seed x.pid)

module _ {D : Type 0} where
  -- a worker has noted this cancel
  abbrev pub HoldsCancel : List (View D) → Cancel → Type 0
  HoldsCancel views x = (id k : ℕ) × (w : PostView D) × (get_elem? views id ≡ some (Worker k w)) × Contains w.notes.cancels x

  -- or the supervisor has it in the notes of a post that it took in
  abbrev pub KnowsCancel : RosterView D → Cancel → Type 0
  KnowsCancel d x =
      (k : ℕ) × (past : List (PastChild D)) × (notes : PostNotes) × ((slot_at d k).sight ≡ Gathered past notes) × Contains notes.cancels x

  -- where there were any, a cancel for this pid was made, and a seat knows it
  abbrev pub WasMade : List (View D) → RosterView D → ℕ → ℕ → Type 0
  WasMade views d pid times = 0 < times → (x : Cancel) × IsCancelFor pid x × (HoldsCancel views x ⊎ KnowsCancel d x)

  abbrev pub AllGathered : RosterView D → Type 0
  AllGathered d = (k : ℕ) → k < length d.slots → is_gathered (slot_at d k).sight ≡ true

  -- once every post is taken in, the supervisor itself knows it
  abbrev pub IsKnownAtLast : RosterView D → ℕ → ℕ → Type 0
  IsKnownAtLast d pid times = AllGathered d → 0 < times → (x : Cancel) × IsCancelFor pid x × KnowsCancel d x

  -- What the children of the posts that were taken in heard was meant for them, by the supervisor's own steps
  abbrev pub HeardAsSent : RosterView D → Type 0
  HeardAsSent d =
      (k : ℕ) (past : List (PastChild D)) (notes : PostNotes) → (slot_at d k).sight ≡ Gathered past notes
      → EachHeard (λ x h. HeardRightly (doings_of d) (IsKnownAtLast d) x.offer h) past notes.heard
