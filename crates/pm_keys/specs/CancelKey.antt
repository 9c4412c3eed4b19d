-- The key that a session is told at its start and that a request to cancel it has to show.
use Rattle.std.specs.Prelude.{ℕ, List}
use Rattle.rand_chacha.specs.ChaCha.{word_at, key_of}

-- the word of number pid, counted from 0, on stream 0 of the ChaCha20 generator (ten double rounds)
-- that is made from this seed
abbrev pub cancel_key : List ℕ → ℕ → ℕ
cancel_key seed pid = word_at 10 (key_of seed) 0 pid
