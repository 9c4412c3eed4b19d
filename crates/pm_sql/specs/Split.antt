-- Digits that were read from the front of a text.
use Rattle.std.specs.Prelude.{◌≡◌, take, drop}
use Rattle.pm_sql.specs.{declared.grammar.Digits.Digits, Tokens.digits_len}

-- they are all digits at its front, and the rest comes after them
pub record IsSplit (found : Digits) : Type 0 where
  pub digits : found.digits.now ≡ take (digits_len found.here.now) found.here.now
  pub behind : found.behind.now ≡ drop (digits_len found.here.now) found.here.now
