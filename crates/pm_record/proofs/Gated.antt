-- The list of items behind gates, up to a closed gate.
use Rattle.std.{proofs.Common.{ℕ, zero, suc, ◌||◌, List, [], ◌∷◌, Ok}, specs.Prelude.{◌==◌, nat_lt}}
use Rattle.pm_record.specs.Reading.{Read, ◌>>=◌, byte_at}

-- Behind a gate: nothing more where it is closed.
abbrev pub behind_gate : {X : Type 0} → (List ℕ → Read (List X)) → ℕ → List ℕ → Read (List X)
behind_gate items zero bytes = Ok ([], bytes)
behind_gate items (suc gate) bytes = items bytes

-- An item may come while there is room, and each takes some of it. So `most` items are all that can come, if the room is
-- no more.
abbrev pub gated_at : {X State : Type 0} → (State → List ℕ → Read X) → (State → X → State) → (State → ℕ) → ℕ → State → List ℕ → Read (List X)
gated_at item_at next room zero state bytes = byte_at (λ gate. gate == 0) bytes >>= λ gate. Ok ([], gate.1)
gated_at item_at next room (suc most) state bytes = do
  gate ← byte_at (λ gate. gate == 0 || nat_lt 0 (room state)) bytes
  behind_gate (λ bytes. item_at state bytes >>= λ x. gated_at item_at next room most (next state x.0) x.1 >>= λ xs. Ok (x.0 ∷ xs.0, xs.1)) gate.0 gate.1
