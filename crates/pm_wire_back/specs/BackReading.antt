-- Reading a message of the server after its type and its length, which leaves it size bytes.
use Rattle.std.specs.{Prelude.{ℕ, ◌+◌, ◌-◌, ◌*◌, ◌^◌, Bool, true, not, ◌&&◌, ◌||◌, ◌==◌, nat_lt, if◌then◌else◌, List, [], ◌∷◌, ◌++◌, length, drop, Option, Some, None, Result, Ok, Err, codes}, List.list_any}
use Rattle.byteorder.specs.Endian.{big_number}
use Rattle.pm_wire_back.specs.{Letters.{letter_C, letter_D, letter_E, letter_F, letter_I, letter_K, letter_P, letter_R, letter_S, letter_T, letter_U, letter_W, letter_Z}, declared.parts.{Stop.{Stop, TheVariants.{Partial, Departs}}, Ending.TheVariants.{Anywhere, NotOneShort, Exactly}}, Parts.{◌>>=◌, departs, literal_at, int32_at, code_at, text_at, string_at, number_at, key_at}}
use Rattle.pm_wire.specs.{declared.{back.{Severity.{Severity, TheVariants.{Error, Fatal, Panic, Warning}}, Tag.{Tag, TheVariants.{Insert, Update, Delete, Select}}}, take.{Take.{Take, TheVariants.{Whole, Short, Bad}}, WireFault.TheVariants.{BadLength, BadForm}}}, Pieces.int32, Backend.{BackMessage, Auth, Param, Key, Ready, Fields, Pair, One, Complete, Empty, Fault, Notice, Saying, severity_word, body}}
use Rattle.pm_wire.specs.declared.back.Shape.TheVariants as shapes
use Rattle.pm_utf8.specs.Utf8.{boundary}

abbrev pub Read : Type 0
Read = Result (BackMessage × List ℕ) Stop

-- a message of one word
unfoldable pub word_at : List ℕ → BackMessage → List ℕ → Read
word_at word m bytes = do
  w ← literal_at word bytes
  Ok (m, w.1)

unfoldable pub param_at : ℕ → List ℕ → Read
param_at size bytes = do
  name ← string_at Anywhere boundary (size - 2) bytes
  value ← string_at Exactly boundary (size - 2 - length name.0) name.1
  Ok (Param name.0 value.0, value.1)

unfoldable pub key_data_at : List ℕ → Read
key_data_at bytes = do
  pid ← int32_at bytes
  key ← int32_at pid.1
  Ok (Key pid.0 key.0, key.1)

-- a row, after the number of its columns
unfoldable pub one_at : ℕ → List ℕ → Read
one_at size bytes = do
  count ← literal_at (int32 (size - 6)) bytes
  text ← text_at boundary (size - 6) count.1
  Ok (One text.0, text.1)

-- one byte, from 1 to most
unfoldable pub count_at : ℕ → List ℕ → Result (ℕ × List ℕ) Stop
count_at most [] = Err Partial
count_at most (b ∷ bs) = if b == 0 then departs (b ∷ bs) else if nat_lt most b then departs (b ∷ bs) else Ok (b, bs)

abbrev pub key_room : ℕ → ℕ
key_room size = if nat_lt (size - 10) 20 then size - 10 else 20

unfoldable pub pair_at : ℕ → List ℕ → Read
pair_at size bytes = do
  high ← literal_at (0 ∷ 0 ∷ 0 ∷ []) bytes
  count ← count_at (key_room size) high.1
  key ← key_at count.0 count.1
  length_is ← literal_at (int32 (size - 10 - count.0)) key.1
  value ← text_at boundary (size - 10 - count.0) length_is.1
  Ok (Pair key.0 value.0, value.1)

unfoldable pub columns_at : ℕ → List ℕ → Read
columns_at size [] = Err Partial
columns_at size (b ∷ bs) = if b == 1 then one_at size bs else if b == 2 && nat_lt 10 size then pair_at size bs else departs (b ∷ bs)

unfoldable pub row_at : ℕ → List ℕ → Read
row_at size bytes = do
  high ← literal_at (0 ∷ []) bytes
  columns_at size high.1

-- a tag with this text before its number, which has count digits: the number
unfoldable pub counted_verb_at : List ℕ → ℕ → List ℕ → Result (ℕ × List ℕ) Stop
counted_verb_at verb count bytes = do
  v ← literal_at verb bytes
  n ← number_at true (2 ^ 64 - 1) 0 count v.1
  end ← literal_at (0 ∷ []) n.1
  Ok (n.0, end.1)

abbrev pub verb_at : List ℕ → (ℕ → Tag) → ℕ → List ℕ → Result (Tag × List ℕ) Stop
verb_at verb make count bytes = counted_verb_at verb count bytes >>= λ n. Ok (make n.0, n.1)

-- whether a tag whose text is so long leaves a number of 1 to 20 digits
abbrev pub leaves_number : ℕ → ℕ → Bool
leaves_number len size = nat_lt (len + 1) size && nat_lt size (len + 22)

unfoldable pub tag_at : ℕ → List ℕ → Result (Tag × List ℕ) Stop
tag_at size [] = Err Partial
tag_at size (b ∷ bs) =
    if b == letter_I && leaves_number 9 size then verb_at (codes "INSERT 0 ") Insert (size - 10) (b ∷ bs)
    else if b == letter_U && leaves_number 7 size then verb_at (codes "UPDATE ") Update (size - 8) (b ∷ bs)
    else if b == letter_D && leaves_number 7 size then verb_at (codes "DELETE ") Delete (size - 8) (b ∷ bs)
    else if b == letter_S && leaves_number 7 size then verb_at (codes "SELECT ") Select (size - 8) (b ∷ bs)
    else departs (b ∷ bs)

unfoldable pub complete_at : ℕ → List ℕ → Read
complete_at size bytes = do
  tag ← tag_at size bytes
  Ok (Complete tag.0, tag.1)

-- the detail and the end of a report, of which so many bytes are left besides the end
unfoldable pub detail_at : ℕ → List ℕ → Result (Option (List ℕ) × List ℕ) Stop
detail_at left bytes =
    if left == 0 then (literal_at (0 ∷ []) bytes >>= λ end. Ok (None, end.1))
    else (literal_at (codes "D") bytes >>= λ letter. string_at Exactly boundary (left - 2) letter.1 >>= λ detail. literal_at (0 ∷ []) detail.1 >>= λ end. Ok (Some detail.0, end.1))

-- what stands before the code of a report of this severity, after its first letter
abbrev pub severity_fields : Severity → List ℕ
severity_fields severity = severity_word severity ++ 0 ∷ codes "V" ++ severity_word severity ++ 0 ∷ codes "C"

-- how many bytes of text a report of this size has room for
abbrev pub text_room : Severity → ℕ → ℕ
text_room severity size = size - (2 * length (severity_word severity) + 14)

unfoldable pub said_at : Severity → ℕ → List ℕ → Result (Saying × List ℕ) Stop
said_at severity size bytes = do
  word ← literal_at (severity_fields severity) bytes
  code ← code_at 5 word.1
  letter ← literal_at (0 ∷ codes "M") code.1
  text ← string_at NotOneShort boundary (text_room severity size) letter.1
  detail ← detail_at (text_room severity size - length text.0) text.1
  Ok (record { severity = severity; code = code.0; text = text.0; detail = detail.0 }, detail.1)

unfoldable pub severity_at : ℕ → List ℕ → Result (Saying × List ℕ) Stop
severity_at size [] = Err Partial
severity_at size (b ∷ bs) =
    if b == letter_E then said_at Error size (b ∷ bs)
    else if b == letter_F then said_at Fatal size (b ∷ bs)
    else if b == letter_P then said_at Panic size (b ∷ bs)
    else if b == letter_W && nat_lt 27 size then said_at Warning size (b ∷ bs)
    else departs (b ∷ bs)

unfoldable pub report_at : ℕ → List ℕ → Result (Saying × List ℕ) Stop
report_at size bytes = do
  letter ← literal_at (codes "S") bytes
  severity_at size letter.1

-- the types of the server's messages
abbrev pub is_back_type : ℕ → Bool
is_back_type kind = list_any (λ letter. letter == kind) (codes "RSKZTDCIEN")

-- whether a message of the type has a body of so many bytes
abbrev pub fits_type : ℕ → ℕ → Bool
fits_type kind size =
    if kind == letter_R then size == 4
    else if kind == letter_S then nat_lt 1 size
    else if kind == letter_K then size == 8
    else if kind == letter_Z then size == 1
    else if kind == letter_T then size == 42 || (size == 26 || size == 29)
    else if kind == letter_D then nat_lt 5 size
    else if kind == letter_C then leaves_number 9 size || leaves_number 7 size
    else if kind == letter_I then size == 0
    else nat_lt 23 size

abbrev pub has_length : ℕ → ℕ → Bool
has_length kind seen = nat_lt 3 seen && (nat_lt seen (2 ^ 31) && fits_type kind (seen - 4))

abbrev pub fields_at : ℕ → List ℕ → Read
fields_at size bytes =
    if size == 42 then word_at (body (Fields shapes.Pair)) (Fields shapes.Pair) bytes
    else if size == 26 then word_at (body (Fields shapes.Count)) (Fields shapes.Count) bytes
    else word_at (body (Fields shapes.Sleep)) (Fields shapes.Sleep) bytes

unfoldable pub body_at : ℕ → ℕ → List ℕ → Read
body_at kind size bytes =
    if kind == letter_R then word_at (int32 0) Auth bytes
    else if kind == letter_S then param_at size bytes
    else if kind == letter_K then key_data_at bytes
    else if kind == letter_Z then word_at (codes "I") Ready bytes
    else if kind == letter_T then fields_at size bytes
    else if kind == letter_D then row_at size bytes
    else if kind == letter_C then complete_at size bytes
    else if kind == letter_I then word_at [] Empty bytes
    else if kind == letter_E then (report_at size bytes >>= λ s. Ok (Fault s.0, s.1))
    else (report_at size bytes >>= λ s. Ok (Notice s.0, s.1))

-- what reading the body says of the whole, of total bytes
abbrev pub stopped : (total seen : ℕ) → Stop → Take BackMessage
stopped total seen Partial = Short (seen + 1)
stopped total seen (Departs left) = Bad (BadForm (total - left))

abbrev pub taken : ℕ → ℕ → Read → Take BackMessage
taken total seen (Ok p) = Whole p.0 (seen + 1)
taken total seen (Err stop) = stopped total seen stop

abbrev pub back_of_length : ℕ → ℕ → List ℕ → Take BackMessage
back_of_length kind seen after = if has_length kind seen then taken (5 + length after) seen (body_at kind (seen - 4) after) else Bad (BadLength seen)

unfoldable pub back_of : List ℕ → Take BackMessage
back_of [] = Short 5
back_of (kind ∷ rest) =
    if not (is_back_type kind) then Bad (BadForm 0)
    else if nat_lt (length rest) 4 then Short 5
    else back_of_length kind (big_number 4 rest) (drop 4 rest)
