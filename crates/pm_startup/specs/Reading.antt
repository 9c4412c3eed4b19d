-- What the reader of a body keeps and meets, by the definitions of `Parameters`.
use Rattle.std.specs.{Prelude.{◌≡◌, ◌<◌, ◌≤◌, ℕ, List, [], ◌∷◌, ◌++◌, length, codes}, Option.option_map}
use Rattle.pm_startup.specs.{declared.parameters.{Settings.Settings, Item.{Item, TheVariants.{Pair, End, Malformed}}}, Parameters.{Parameter, IsParameter, pair, FailsAt, value_of, asks_option, asks_replication}}

-- What is kept of the pairs so far says what they ask for.
pub record Tells (settings : Settings) (ps : List Parameter) : Type 0 where
  pub user : option_map (λ user. user.now) settings.user ≡ value_of (codes "user") ps
  pub option : settings.asks_option ≡ asks_option ps
  pub replication : settings.asks_replication ≡ asks_replication ps

-- This is what stands at the front of the rest of a body.
abbrev pub IsItem : List ℕ → Item → Type 0
IsItem rest (Pair name value after) =
    let p : Parameter = record { name = name.now; value = value.now } in
    IsParameter p × (rest ≡ pair p ++ after.now)
IsItem rest End = rest ≡ 0 ∷ []
IsItem rest (Malformed at) = FailsAt rest at

-- The place where the rest fails is in it or at its end.
abbrev pub IsWithin : List ℕ → Item → Type 0
IsWithin rest (Pair name value after) = length after.now < length rest
IsWithin rest End = Unit {0}
IsWithin rest (Malformed at) = at ≤ length rest
