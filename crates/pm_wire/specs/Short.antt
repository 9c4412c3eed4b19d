-- What a caller of `Back::write` may cite of a row's length.
use Rattle.std.{specs.{Prelude.{ℕ, ℤ, ◌+◌, ◌-◌, ◌^◌, ◌<◌, List, length}, Fmt.signed_decimal}, proofs.{Common.arith, lemmas.Fmt.length_signed_le}}
use lib.Signed.{mag}

-- a key has at most 20 characters
pub short_pair : (key : ℤ) (value : List ℕ) → mag key < 2 ^ 63 → length value < 2 ^ 31 - 34 → 14 + length (signed_decimal key) + length value < 2 ^ 31
short_pair key value fits short = omega (arith, length_signed_le 19 key (omega (arith, fits)) fits)
