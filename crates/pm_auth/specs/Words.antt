-- Words that say something each.
use Rattle.std.specs.Prelude.{◌≡◌, ℕ, List, slice_get, take, Some}

-- The first word that doesn't fit says nothing of its kind: those before it fit, as saying these.
pub record IsFirstOdd {X : Type 0} (Fit : List (List ℕ) → List X → Type 0) (Says : List ℕ → X → Type 0) (words : List (List ℕ)) (index : ℕ) : Type 0 where
  pub before : List X
  pub word : List ℕ
  pub fit : Fit (take index words) before
  pub word_at : slice_get words index ≡ Some word
  pub none : (x : X) → ¬ (Says word x)
