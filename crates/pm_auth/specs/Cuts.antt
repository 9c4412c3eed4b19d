-- Where texts are cut in two.
use Rattle.std.specs.{Prelude.{◌≡◌, ◌≢◌, ℕ, List, ◌∷◌, ◌++◌, length}, List.AllByRecursion}

abbrev pub IsFreeOf : (byte : ℕ) → List ℕ → Type 0
IsFreeOf byte bytes = AllByRecursion (λ other. other ≢ byte) bytes

-- at the first such byte
pub record IsCut (byte : ℕ) (whole front rest : List ℕ) : Type 0 where
  pub front_is : IsFreeOf byte front
  pub whole_is : whole ≡ front ++ byte ∷ rest

-- at such a byte after so many
pub record IsCutAt (count byte : ℕ) (whole front rest : List ℕ) : Type 0 where
  pub front_is : length front ≡ count
  pub whole_is : whole ≡ front ++ byte ∷ rest
