-- Numbers out of range.
use Rattle.std.{proofs.{Common.{◌≡◌, ℕ, ◌-◌, ◌^◌, ◌≤◌, Bool, true, false, List, take, min, Ok, Err, refl, arith, nat_le}, lemmas.Bool.Decides.nat_tests}, specs.Bool.IsTrue}
use Rattle.pm_sql.specs.{declared.fault.Kind.TheVariants.Range, Limits.max_sleep_seconds, Tokens.{skipped, digits_len, digits_value}, Reading.fault_at, Grammar.{digits_at, behind_digits, sign_of, fits_bigint, int_at, seconds_at}}

pub out_of_bigint : (is_negative : Bool) (number kept : ℕ) → kept ≡ min number (2 ^ 64 - 1) → (IsTrue (fits_bigint is_negative kept) → ⊥) → fits_bigint is_negative number ≡ false
out_of_bigint true number kept e h = grind (arith, nat_tests, e, h)
out_of_bigint false number kept e h = grind (arith, nat_tests, e, h)

pub out_of_seconds : (number kept : ℕ) → kept ≡ min number (2 ^ 64 - 1) → 2 ^ 32 ≤ kept → nat_le number max_sleep_seconds ≡ false
out_of_seconds number kept e h = grind (arith, nat_tests, e, h)

pub int_out_of_range : (input here : List ℕ) → digits_at (sign_of (skipped input)).1 ≡ Ok here
    → fits_bigint (sign_of (skipped input)).0 (digits_value (take (digits_len here) here)) ≡ false → int_at input ≡ Err (fault_at Range here)
unfolding int_at behind_digits
int_out_of_range input here e f = rw (e, f) refl

pub seconds_out_of_range : (input here : List ℕ) → digits_at input ≡ Ok here
    → nat_le (digits_value (take (digits_len here) here)) max_sleep_seconds ≡ false → seconds_at input ≡ Err (fault_at Range here)
unfolding seconds_at behind_digits
seconds_out_of_range input here e f = rw (e, f) refl
