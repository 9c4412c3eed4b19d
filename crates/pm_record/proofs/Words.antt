-- What it means that bytes begin a word.
use Rattle.std.proofs.Common.{◌≡◌, ℕ, List, ◌∷◌, ◌++◌}

-- These bytes and some more, at least one, are a word for something.
abbrev pub Begins : {X : Type 0} → (X → List ℕ → Type 0) → List ℕ → Type 0
Begins {X} Is bytes = (x : X) × (byte : ℕ) × (more : List ℕ) × Is x (bytes ++ byte ∷ more)

-- some values, each by its one spelling
abbrev pub Spelled : {A : Type 0} → (A → Type 0) → (A → List ℕ) → A → List ℕ → Type 0
Spelled May spell a word = May a × (word ≡ spell a)
