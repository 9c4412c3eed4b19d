-- The types of a client's messages that are read beyond their first byte.
use Rattle.std.specs.Prelude.{ℕ}

abbrev pub letter_Q : ℕ
letter_Q = 81

abbrev pub letter_X : ℕ
letter_X = 88
