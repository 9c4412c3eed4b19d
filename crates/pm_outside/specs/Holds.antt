-- Where a script waits for what others see.
use Rattle.std.specs.Prelude.{◌≡◌, ◌⊎◌, ◌<◌, ℕ, List, [], ◌∷◌}
use Rattle.pm_outside.specs.declared.holds.{Hold.Hold, Holds.Holds}

-- the holds whose cue hasn't come, by their places
abbrev pub holds_left : Holds → List Hold
holds_left holds = holds.left.items

-- the place of the first, or that one where there is none
abbrev pub first_place : List Hold → ℕ → ℕ
first_place [] end = end
first_place (hold ∷ holds) end = hold.at

-- what stands at this place may be given
abbrev pub IsFree : List Hold → ℕ → Type 0
IsFree [] place = Unit {0}
IsFree (hold ∷ holds) place = place < hold.at

-- all stand, or the first has gone
abbrev pub LetsGo : List Hold → List Hold → Type 0
LetsGo before now = (now ≡ before) ⊎ ((hold : Hold) × (before ≡ hold ∷ now))
