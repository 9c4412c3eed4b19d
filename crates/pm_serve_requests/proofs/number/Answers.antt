use Rattle.std.{proofs.{Common.{ℕ, List, [], ◌∷◌, Ok, Err, Result, zero, suc, arith}, lemmas.Str.{IsUtf8-from_ascii, Parse.{IsNumeralModel, digit_from_value, digits_value_short, numerals_by_value, parse_digits, tells_digits}}}, specs.{Prelude.IfNone, Result.result_ok, Str.{IsAscii, Parse.{AllDigits, ParsesUnsigned, digits_value}}}}
use Rattle.pm_serve_requests.specs.Requests.{IsNumber}
use Rattle.pm_serve_requests.proofs.number.Goals as goal

-- digits are a text
are_ascii : (digits : List ℕ) → AllDigits 10 digits → IsAscii digits
are_ascii [] all i = omega arith
are_ascii (digit ∷ digits) all zero = omega (arith, digit_from_value digit all.0)
are_ascii (digit ∷ digits) all (suc i) = are_ascii digits all.1 i

numerals : IsNumeralModel (AllDigits 10) (digits_value 10)
numerals = numerals_by_value (AllDigits 10) tells_digits

-- and ten of them are never too large
is_refused : {E : Type 0} (digits : List ℕ) (parsed : Result ℕ E) → ParsesUnsigned 64 10 digits parsed
    → IfNone (result_ok parsed) ((number : ℕ) → ¬ (IsNumber digits number))
is_refused digits (Ok number) parses = tt
is_refused digits (Err fault) parses = λ number is.
    parse_digits numerals 64 digits (Err fault) parses is.numeral.1
    (is.numeral.0, omega (arith, digits_value_short numerals digits 10 is.numeral.1 is.few))

pub returns-in_default-clause-none : goal.returns-in_default-clause-none
returns-in_default-clause-none c = λ number is.
    c.in_default.ensures.cases.0 (IsUtf8-from_ascii c.args.digits.now (are_ascii c.args.digits.now is.numeral.1))

pub returns-clause-none : goal.returns-clause-none
returns-clause-none c =
    rw c.ok.ensures.value (is_refused c.args.digits.now c.parse.result (rw c.in-Ok.ensures.cases.0 at c.parse.ensures.value.0))
