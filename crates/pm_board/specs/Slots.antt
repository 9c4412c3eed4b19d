-- How many of a table's slots are for children.
use Rattle.std.{specs.Prelude.{◌≡◌, ℕ, ◌<◌}, proofs.Common.refl}

-- Of a table of so many slots this many are child slots, which come first. Today they are all of them
pub child_slots : ℕ → ℕ
child_slots slots = slots

-- All that a proof may use of it: that they are all, and that each is one of the table's
pub all_slots : (n : ℕ) → child_slots n ≡ n
unfolding child_slots
all_slots n = refl

pub is_slot : (n k : ℕ) → k < child_slots n → k < n
unfolding child_slots
is_slot n k near = near
