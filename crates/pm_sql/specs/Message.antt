-- The text of a fault for the client.
use Rattle.std.specs.{Prelude.{ℕ, ◌-◌, Bool, if◌then◌else◌, ◌==◌, ◌&&◌, not, List, [], ◌∷◌, ◌++◌, length, take, drop, slice_index, Option, Some, None, nat_le, nat_lt, codes}, Str.str_to_ascii_lowercase}
use Rattle.pm_sql.specs.{declared.query.SqlFault.{SqlFault, TheVariants.{Syntax, Table, Range, TooLong, TooMany, NoMemory}}, Tokens.{starts_with_letter, word_len, digits_len, behind_mark, string_in, string_end, quote}, Query.is_at_end}

-- whether a text may be cut at this place: not inside a character
abbrev pub is_boundary : List ℕ → ℕ → Bool
is_boundary text place = nat_le place (length text) && not (nat_le 128 (slice_index text place) && nat_lt (slice_index text place) 192)

-- the text from a place on
abbrev pub from_place : List ℕ → ℕ → List ℕ
from_place text place = if is_boundary text place then drop place text else []

-- the text up to a place, or all of it
abbrev pub up_to_place : List ℕ → ℕ → List ℕ
up_to_place text place = if is_boundary text place then take place text else text

-- how many bytes the character has that begins with this byte
abbrev pub char_len : ℕ → ℕ
char_len byte = if nat_lt byte 128 then 1 else (if nat_lt byte 224 then 2 else (if nat_lt byte 240 then 3 else 4))

-- a string as it is spelled, from its quote on; of one that doesn't end, the quote
abbrev pub string_token : List ℕ → Option (List ℕ) → List ℕ
string_token here None = quote ∷ []
string_token here (Some behind) = up_to_place here (length here - length behind)

-- a token that is neither word nor digits: a string, where a quote was found, or else a character
abbrev pub other_token : List ℕ → Option (List ℕ) → List ℕ
other_token here None = up_to_place here (char_len (slice_index here 0))
other_token here (Some rest) = string_token here (string_end (string_in rest))

-- the token at the front, as it is spelled
abbrev pub token_of : List ℕ → List ℕ
token_of here =
    if starts_with_letter here then take (word_len here) here
    else (if digits_len here == 0 then other_token here (behind_mark quote here) else take (digits_len here) here)

abbrev pub syntax_message : List ℕ → List ℕ
syntax_message here = if is_at_end here then codes "syntax error at end of input" else (codes "syntax error at or near \"" ++ token_of here) ++ codes "\""

-- the token is given as it is spelled, and the name of a table in lower case
abbrev pub message_of : List ℕ → SqlFault → List ℕ
message_of text (Syntax place) = syntax_message (from_place text place)
message_of text (Table place) = (codes "relation \"" ++ str_to_ascii_lowercase (token_of (from_place text place))) ++ codes "\" does not exist"
message_of text (Range place) = codes "bigint out of range"
message_of text (TooLong place) = codes "value exceeds 8192 bytes"
message_of text (TooMany place) = codes "query exceeds 1000 writing statements"
message_of text NoMemory = codes "out of memory"
