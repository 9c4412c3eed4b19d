-- No message is longer than is said of its kind, and what the table says can be written.
use Rattle.std.{proofs.{Common.{◌≡◌, ℕ, ℤ, ◌+◌, ◌^◌, ◌<◌, ◌≤◌, List, [], ◌∷◌, ◌++◌, length, codes, decimal, arith}, lemmas.{List.length-append, Fmt.{length_signed_le, length-decimal-le}}}, specs.Fmt.signed_decimal}
use lib.Signed.{mag}
use Rattle.pm_wire.{specs.{declared.back.{Severity.{Severity, TheVariants.{Error, Fatal, Panic, Warning}}, Shape.Shape, Tag.TheVariants.{Insert, Update, Delete, Select}}, Pieces.{int16, int32, string}, Backend.{BackMessage, Auth, Param, Key, Ready, Fields, Pair, One, Complete, Empty, Fault, Notice, Saying, body, kind_of, spelling, severity_word, report_length}, Longest.{longest, longest_report, HasSizes}, Numbers.length_int32, Sizes.{length_fields_of, param_size, pair_size, one_size}}, proofs.Apart.{length_kind, length_message}}
use Rattle.pm_wire.specs.declared.back.Shape.TheVariants as shapes

pub key_digits : (key : ℤ) → mag key < 2 ^ 63 → length (signed_decimal key) ≤ 20
key_digits key fits = length_signed_le 19 key (omega (arith, fits)) fits

tag_digits : (verb : List ℕ) (n : ℕ) → n < 2 ^ 64 → length (string (verb ++ decimal n)) ≤ length verb + 21
tag_digits verb n fits = omega (arith, length-append (verb ++ decimal n) (0 ∷ []), length-append verb (decimal n), length-decimal-le 20 n (omega arith) (omega arith) fits)

columns_fit : (shape : Shape) → length (body (Fields shape)) ≤ 42
unfolding int16 int32
columns_fit shapes.Pair = omega arith
columns_fit shapes.Count = omega arith
columns_fit shapes.Sleep = omega arith

word_fits : (severity : Severity) → length (severity_word severity) ≤ 7
word_fits Error = omega arith
word_fits Fatal = omega arith
word_fits Panic = omega arith
word_fits Warning = omega arith

report_fits : (s : Saying) → length s.code ≡ 5 → 1 + report_length s ≤ longest_report s
report_fits s five = omega (arith, word_fits s.severity, five)

body_fits : (m : BackMessage) → HasSizes m → 5 + length (body m) ≤ longest m
body_fits Auth h = omega (arith, length_int32 0)
body_fits (Param name value) h = omega (arith, param_size name value)
body_fits (Key pid key) h = omega (arith, length-append (int32 pid) (int32 key), length_int32 pid, length_int32 key)
body_fits Ready h = omega arith
body_fits (Fields shape) h = omega (arith, columns_fit shape)
body_fits (Pair key value) h = omega (arith, pair_size key value, key_digits key h)
body_fits (One text) h = omega (arith, one_size text)
body_fits (Complete (Insert n)) h = omega (arith, tag_digits (codes "INSERT 0 ") n h)
body_fits (Complete (Update n)) h = omega (arith, tag_digits (codes "UPDATE ") n h)
body_fits (Complete (Delete n)) h = omega (arith, tag_digits (codes "DELETE ") n h)
body_fits (Complete (Select n)) h = omega (arith, tag_digits (codes "SELECT ") n h)
body_fits Empty h = omega arith
body_fits (Fault s) h = omega (arith, length_fields_of s, report_fits s h)
body_fits (Notice s) h = omega (arith, length_fields_of s, report_fits s h)

pub longest_is : (m : BackMessage) → HasSizes m → length (spelling m) ≤ longest m
longest_is m h = omega (arith, length_message (kind_of m) (body m) (length_kind m), body_fits m h)
