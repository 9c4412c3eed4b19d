-- Laws: how long a message is.
use Rattle.std.{proofs.{Common.{◌≡◌, ℕ, ℤ, ◌+◌, ◌*◌, ◌^◌, ◌<◌, ◌++◌, ◌∷◌, [], List, length, Option, Some, None, ◌↔◌, codes, decimal, arith}, lemmas.{List.length-append, Fmt.length-decimal-le}}, specs.Fmt.signed_decimal}
use Rattle.pm_wire.specs.{declared.back.{Shape.Shape, Tag.TheVariants.{Insert, Update, Delete, Select}}, Pieces.{int16, int32, counted, string}, Backend.{BackMessage, Auth, Param, Key, Ready, Fields, Pair, One, Complete, Empty, Fault, Notice, body, fields, fields_of, severity_word, detail_length, report_length, Saying, IsShort, HasCount}, Numbers.{length_int16, length_int32}}
use Rattle.pm_wire.specs.declared.back.Shape.TheVariants as shapes

pub length_fields : (word code text : List ℕ) (detail : Option (List ℕ))
    → length (fields word code text detail) ≡ 2 * (2 + length word) + (2 + length code) + (2 + length text) + detail_length detail + 1
unfolding fields
length_fields word code text None = simp length-append (omega arith)
length_fields word code text (Some detail) = simp length-append (omega arith)

pub length_fields_of : (s : Saying) → 4 + length (fields_of s) ≡ report_length s
length_fields_of s = omega (arith, length_fields (severity_word s.severity) s.code s.text s.detail)

pub columns_short : (shape : Shape) → 4 + length (body (Fields shape)) < 2 ^ 31
unfolding int16 int32
columns_short shapes.Pair = omega arith
columns_short shapes.Count = omega arith
columns_short shapes.Sleep = omega arith

pub tag_short : (verb : List ℕ) (n : ℕ) → length verb < 64 → n < 2 ^ 64 → 4 + length (string (verb ++ decimal n)) < 2 ^ 31
tag_short verb n short fits = omega (arith, length-append (verb ++ decimal n) (0 ∷ []), length-append verb (decimal n), length-decimal-le 20 n (omega arith) (omega arith) fits)

pub param_size : (name value : List ℕ) → 4 + length (body (Param name value)) ≡ 6 + length name + length value
param_size name value = simp length-append (omega arith)

pub pair_size : (key : ℤ) (value : List ℕ) → 4 + length (body (Pair key value)) ≡ 14 + length (signed_decimal key) + length value
pair_size key value =
    omega (
      arith,
      length-append (int16 2 ++ counted (signed_decimal key)) (counted value),
      length-append (int16 2) (counted (signed_decimal key)),
      length-append (int32 (length (signed_decimal key))) (signed_decimal key),
      length-append (int32 (length value)) value,
      length_int16 2,
      length_int32 (length (signed_decimal key)),
      length_int32 (length value),
    )

pub one_size : (text : List ℕ) → 4 + length (body (One text)) ≡ 10 + length text
one_size text =
    omega (arith, length-append (int16 1) (counted text), length-append (int32 (length text)) text, length_int16 1, length_int32 (length text))

-- what a message's condition says of its length field
pub short_iff : (m : BackMessage) → HasCount m → (IsShort m ↔ (4 + length (body m) < 2 ^ 31))
short_iff Auth h = (λ _. omega (arith, length_int32 0), λ _. tt)
short_iff (Param name value) h = (λ a. omega (arith, param_size name value), λ a. omega (arith, param_size name value))
short_iff (Key pid key) h = (λ _. omega (arith, length-append (int32 pid) (int32 key), length_int32 pid, length_int32 key), λ _. tt)
short_iff Ready h = (λ _. omega arith, λ _. tt)
short_iff (Fields shape) h = (λ _. columns_short shape, λ _. tt)
short_iff (Pair key value) h = (λ a. omega (arith, pair_size key value), λ a. omega (arith, pair_size key value))
short_iff (One text) h = (λ a. omega (arith, one_size text), λ a. omega (arith, one_size text))
short_iff (Complete (Insert n)) h = (λ _. tag_short (codes "INSERT 0 ") n (omega arith) h, λ _. tt)
short_iff (Complete (Update n)) h = (λ _. tag_short (codes "UPDATE ") n (omega arith) h, λ _. tt)
short_iff (Complete (Delete n)) h = (λ _. tag_short (codes "DELETE ") n (omega arith) h, λ _. tt)
short_iff (Complete (Select n)) h = (λ _. tag_short (codes "SELECT ") n (omega arith) h, λ _. tt)
short_iff Empty h = (λ _. omega arith, λ _. tt)
short_iff (Fault s) h = (λ a. omega (arith, length_fields_of s), λ a. omega (arith, length_fields_of s))
short_iff (Notice s) h = (λ a. omega (arith, length_fields_of s), λ a. omega (arith, length_fields_of s))
