-- How items are read, each behind an open gate, up to a closed gate.
use Rattle.std.specs.Prelude.{ℕ, zero, suc, ◌==◌, ◌||◌, nat_lt, List, Ok}
use Rattle.pm_record.specs.Reading.{Read, ◌>>=◌, byte_at}

-- the state after the items, where it stays at a closed gate
abbrev pub past_gate : {State : Type 0} → (List ℕ → Read State) → State → ℕ → List ℕ → Read State
past_gate onward state zero bytes = Ok (state, bytes)
past_gate onward state (suc gate) bytes = onward bytes

-- An item may come while there is room, and each takes some of it. So fewer than `most` items can come, if the room is
-- less.
abbrev pub through_gates : {State : Type 0} → (State → List ℕ → Read State) → (State → ℕ) → ℕ → State → List ℕ → Read State
through_gates step room zero state bytes = byte_at (λ gate. gate == 0) bytes >>= λ gate. Ok (state, gate.1)
through_gates step room (suc most) state bytes = do
  gate ← byte_at (λ gate. gate == 0 || nat_lt 0 (room state)) bytes
  past_gate (λ bytes. step state bytes >>= λ s. through_gates step room most s.0 s.1) state gate.0 gate.1
