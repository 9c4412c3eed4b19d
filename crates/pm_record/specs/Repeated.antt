-- How so many items are read, one after another.
use Rattle.std.specs.Prelude.{ℕ, zero, suc, List, [], ◌∷◌, Ok}
use Rattle.pm_record.specs.Reading.{Read, ◌>>=◌}

-- How an item is read depends on how many come after it, and on a state that each item changes.
abbrev pub items_at : {X State : Type 0} → (ℕ → State → List ℕ → Read X) → (State → X → State) → ℕ → State → List ℕ → Read (List X)
items_at item_at next zero state bytes = Ok ([], bytes)
items_at item_at next (suc n) state bytes = do
  first ← item_at n state bytes
  others ← items_at item_at next n (next state first.0) first.1
  Ok (first.0 ∷ others.0, others.1)

-- an item, and the state after it
abbrev pub stepped : {X State : Type 0} → (State → X → State) → State → Read X → Read State
stepped next state read = read >>= λ item. Ok (next state item.0, item.1)

-- the state after so many items
abbrev pub through_at : {State : Type 0} → (ℕ → State → List ℕ → Read State) → ℕ → State → List ℕ → Read State
through_at step zero state bytes = Ok (state, bytes)
through_at step (suc n) state bytes = step n state bytes >>= λ s. through_at step n s.0 s.1
