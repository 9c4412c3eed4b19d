-- What a child is given.
use Rattle.std.specs.Prelude.{◌≡◌, ℕ, ◌==◌, Some}
use Rattle.pm_board.specs.{pm_child_life.declared.life.Signals.Signals, pm_board_words.{declared.views.{Offer.Offer, PostView.PostView}, Latch.signals_at}, Told.{child_in, with_notes, noted_take, noted_heed}}

-- The child met these words of its latch and of its cancels. It was given the signals that stand in the one, and a cancel exactly
-- where the other is its pid
abbrev pub HasTaken : {D : Type 0} → Signals → PostView D → PostView D → Type 0
HasTaken {D} signals before after =
    (o : Offer D) → child_in before.work ≡ Some o
    → (latch cancels : ℕ) × (signals ≡ signals_at latch (cancels == o.pid))
    × (after ≡ with_notes before (noted_take (noted_heed before.notes o.pid cancels) latch))
