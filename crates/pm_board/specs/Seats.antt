-- The rule of the seats: whose view knows what was noted of a slot.
use Rattle.std.specs.Prelude.{◌≡◌, ℕ, ◌<◌, ◌≤◌, Bool, true, false, List}
use mathlib.Core.Option.{some}
use lib.ListN.{get_elem?}
use Rattle.pm_board_words.specs.declared.views.{Sight.{Sight, TheVariants.{Unused, Opened, Assigned, Exited, Collected, Gathered}}, RosterView.RosterView, View.{View, TheVariants.{Worker, Spent}}}
use Rattle.pm_board.specs.{Places.slot_at, Rule.Cell}

module _ {D : Type 0} where
  -- the slot's post was taken in
  abbrev pub is_gathered : Sight D → Bool
  is_gathered (Gathered past notes) = true
  is_gathered _ = false

  -- A worker's seat is there with what the rule has of it. Once its post was taken in it is spent, and the supervisor knows that
  pub data HasSeat (views : List (View D)) (sight : Sight D) (k : ℕ) (c : Cell D) : Type 0 where
    held : get_elem? views c.seat ≡ some (Worker k c.post) → is_gathered sight ≡ false → HasSeat views sight k c
    taken : get_elem? views c.seat ≡ some Spent → sight ≡ Gathered c.post.past c.post.notes → HasSeat views sight k c

  pub record Seats (views : List (View D)) (d : RosterView D) (cells : ℕ → Cell D) : Type 0 where
    pub each : (k : ℕ) → k < d.dealt → HasSeat views (slot_at d k).sight k (cells k)
    pub none_yet : (k : ℕ) → d.dealt ≤ k → is_gathered (slot_at d k).sight ≡ false
