-- What an iterator over rows gives.
use Rattle.std.specs.{Prelude.{ℕ, ℤ, List}, Borrow.Bor}

-- a key with the value that the reference points to
abbrev pub shown_row : ℤ × Bor (List ℕ) → ℤ × List ℕ
shown_row row = (row.0, row.1.now)
