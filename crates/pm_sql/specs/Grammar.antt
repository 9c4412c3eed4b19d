-- How the productions are read from left to right: what each stands for and what comes after it, or the first fault. No
-- public contract cites this; what a text stands for and which fault it has is told by `Statements` and `Faults`.
use Rattle.std.specs.Prelude.{ℕ, ℤ, pos, neg_ℤ, ◌^◌, Bool, true, false, if◌then◌else◌, ◌==◌, List, [], ◌∷◌, length, drop, take, Option, Some, None, Result, Ok, Err, nat_le, nat_lt, codes}
use Rattle.pm_sql.specs.{declared.{stmt.Stmt.{Stmt, TheVariants.{Insert, Update, Delete, Select, Count, Sleep}}, fault.{Kind.TheVariants.{Syntax, Table, Range, TooLong}, Fault.Fault}}, Limits.max_sleep_seconds, Tokens.{skipped, starts_with_letter, word_len, digits_len, digits_value, is_same_word, behind_word, behind_mark, string_in}, Reading.{◌>>=◌, fault_at, found_or_fault, word_at, mark_at}}
use Rattle.pm_rows.specs.Limits.{max_value_bytes}

-- name := word; the one table is kv
unfoldable pub name_at : List ℕ → Result (List ℕ) Fault
name_at input =
    let here = skipped input in
    if word_len here == 0 then Err (fault_at Syntax here)
    else (if is_same_word (take (word_len here) here) (codes "kv") then Ok (drop (word_len here) here) else Err (fault_at Table here))

-- digits, where they begin
unfoldable pub digits_at : List ℕ → Result (List ℕ) Fault
digits_at input = if digits_len (skipped input) == 0 then Err (fault_at Syntax (skipped input)) else Ok (skipped input)

-- what comes after digits: their number has to be in range, and no word follows at once
unfoldable pub behind_digits : Bool → List ℕ → Result (List ℕ) Fault
behind_digits is_in_range here =
    let rest = drop (digits_len here) here in
    if is_in_range then (if starts_with_letter rest then Err (fault_at Syntax rest) else Ok rest) else Err (fault_at Range here)

-- a sign, where one stands: whether it is `-`, and what comes after it
abbrev pub sign_of : List ℕ → Bool × List ℕ
sign_of [] = (false, [])
sign_of (byte ∷ rest) = if byte == 45 then (true, rest) else (if byte == 43 then (false, rest) else (false, byte ∷ rest))

-- whether a number fits 64 bits with its sign
abbrev pub fits_bigint : Bool → ℕ → Bool
fits_bigint is_negative number = if is_negative then nat_le number (2 ^ 63) else nat_lt number (2 ^ 63)

abbrev pub signed : Bool → ℕ → ℤ
signed is_negative number = if is_negative then neg_ℤ (pos number) else pos number

-- int := [ "+" | "-" ] digits
unfoldable pub int_at : List ℕ → Result (ℤ × List ℕ) Fault
int_at input =
    let sign = sign_of (skipped input) in do
      here ← digits_at sign.1
      rest ← behind_digits (fits_bigint sign.0 (digits_value (take (digits_len here) here))) here
      Ok (signed sign.0 (digits_value (take (digits_len here) here)), rest)

-- digits that are seconds of a pause
unfoldable pub seconds_at : List ℕ → Result (ℕ × List ℕ) Fault
seconds_at input = do
  here ← digits_at input
  rest ← behind_digits (nat_le (digits_value (take (digits_len here) here)) max_sleep_seconds) here
  Ok (digits_value (take (digits_len here) here), rest)

-- a string that is short enough for a value
unfoldable pub string_at : List ℕ → Result (List ℕ × List ℕ) Fault
string_at input =
    let here = skipped input in do
      begin ← mark_at 39 input
      found ← found_or_fault (string_in begin) here
      if nat_lt max_value_bytes (length found.0) then Err (fault_at TooLong here) else Ok found

-- `k =` and an int
unfoldable pub key_condition_at : List ℕ → Result (ℤ × List ℕ) Fault
key_condition_at input = do
  a ← word_at (codes "k") input
  b ← mark_at 61 a
  int_at b

-- [ "(" k "," v ")" ], what of it was opened
abbrev pub columns_in : List ℕ → Option (List ℕ) → Result (List ℕ) Fault
columns_in input None = Ok input
columns_in input (Some begin) = do
  a ← word_at (codes "k") begin
  b ← mark_at 44 a
  c ← word_at (codes "v") b
  mark_at 41 c

-- INSERT, after this word: INTO name [ "(" k "," v ")" ] VALUES "(" int "," string ")"
unfoldable pub insert_at : List ℕ → Result (Stmt × List ℕ) Fault
insert_at input = do
  a ← word_at (codes "into") input
  b ← name_at a
  c ← columns_in b (behind_mark 40 (skipped b))
  d ← word_at (codes "values") c
  e ← mark_at 40 d
  key ← int_at e
  f ← mark_at 44 key.1
  value ← string_at f
  rest ← mark_at 41 value.1
  Ok (Insert key.0 value.0, rest)

-- UPDATE, after this word: name SET v "=" string WHERE k "=" int
unfoldable pub update_at : List ℕ → Result (Stmt × List ℕ) Fault
update_at input = do
  a ← name_at input
  b ← word_at (codes "set") a
  c ← word_at (codes "v") b
  d ← mark_at 61 c
  value ← string_at d
  e ← word_at (codes "where") value.1
  key ← key_condition_at e
  Ok (Update key.0 value.0, key.1)

-- DELETE, after this word: FROM name WHERE k "=" int
unfoldable pub delete_at : List ℕ → Result (Stmt × List ℕ) Fault
delete_at input = do
  a ← word_at (codes "from") input
  b ← name_at a
  c ← word_at (codes "where") b
  key ← key_condition_at c
  Ok (Delete key.0, key.1)

-- FROM name
unfoldable pub from_at : List ℕ → Result (List ℕ) Fault
from_at input = do
  a ← word_at (codes "from") input
  name_at a

-- [ WHERE k "=" int ], what of it was opened
abbrev pub condition_in : List ℕ → Option (List ℕ) → Result (Option ℤ × List ℕ) Fault
condition_in input None = Ok (None, input)
condition_in input (Some begin) = do
  key ← key_condition_at begin
  Ok (Some key.0, key.1)

-- [ ORDER BY k ], what of it was opened
abbrev pub order_in : List ℕ → Option (List ℕ) → Result (List ℕ) Fault
order_in input None = Ok input
order_in input (Some begin) = do
  a ← word_at (codes "by") begin
  word_at (codes "k") a

-- SELECT, after its columns: FROM name [ WHERE k "=" int ] [ ORDER BY k ]
unfoldable pub rows_at : List ℕ → Result (Stmt × List ℕ) Fault
rows_at input = do
  a ← from_at input
  key ← condition_in a (behind_word (codes "where") (skipped a))
  rest ← order_in key.1 (behind_word (codes "order") (skipped key.1))
  Ok (Select key.0, rest)

-- SELECT k, after k: "," v and the rest
unfoldable pub pairs_at : List ℕ → Result (Stmt × List ℕ) Fault
pairs_at input = do
  a ← mark_at 44 input
  b ← word_at (codes "v") a
  rows_at b

-- SELECT count, after count: "(" "*" ")" FROM name
unfoldable pub count_at : List ℕ → Result (Stmt × List ℕ) Fault
count_at input = do
  a ← mark_at 40 input
  b ← mark_at 42 a
  c ← mark_at 41 b
  rest ← from_at c
  Ok (Count, rest)

-- SELECT pg_sleep, after pg_sleep: "(" digits ")"
unfoldable pub sleep_at : List ℕ → Result (Stmt × List ℕ) Fault
sleep_at input = do
  a ← mark_at 40 input
  seconds ← seconds_at a
  rest ← mark_at 41 seconds.1
  Ok (Sleep seconds.0, rest)

-- one of several words, each with what is read after it
abbrev pub or_else : {A : Type 0} → Option (List ℕ) → (List ℕ → Result A Fault) → Result A Fault → Result A Fault
or_else None read others = others
or_else (Some behind) read others = read behind

-- SELECT, after this word
unfoldable pub select_at : List ℕ → Result (Stmt × List ℕ) Fault
select_at input =
    let here = skipped input in
    or_else (behind_mark 42 here) rows_at
    (or_else (behind_word (codes "k") here) pairs_at
    (or_else (behind_word (codes "count") here) count_at
    (or_else (behind_word (codes "pg_sleep") here) sleep_at
    (Err (fault_at Syntax here)))))
