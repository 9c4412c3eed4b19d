-- Tokens: what stands at the front of a text.
use Rattle.std.specs.{Prelude.{ℕ, ◌+◌, ◌*◌, ◌-◌, Bool, false, cond, if◌then◌else◌, ◌||◌, ◌==◌, List, [], ◌∷◌, map, take, drop, fold, Option, Some, None}, Char.{is_ascii_whitespace, is_ascii_alphabetic, is_ascii_alphanumeric, is_ascii_digit, to_ascii_lowercase}, List.prefix_len, Str.bytes_eq}

-- the text after its white space: space, tab, line feed, form feed and carriage return
abbrev pub skipped : List ℕ → List ℕ
skipped text = drop (prefix_len is_ascii_whitespace text) text

abbrev pub is_letter : ℕ → Bool
is_letter byte = is_ascii_alphabetic byte || byte == 95

abbrev pub is_word_byte : ℕ → Bool
is_word_byte byte = is_ascii_alphanumeric byte || byte == 95

-- whether a letter or `_` stands at the front
abbrev pub starts_with_letter : List ℕ → Bool
starts_with_letter [] = false
starts_with_letter (byte ∷ rest) = is_letter byte

-- a word is a letter or `_`, and the letters, digits and `_` after it; this is its length, or 0 where none stands at the front
abbrev pub word_len : List ℕ → ℕ
word_len here = cond (starts_with_letter here) (prefix_len is_word_byte here) 0

-- the number of digits at the front
abbrev pub digits_len : List ℕ → ℕ
digits_len here = prefix_len is_ascii_digit here

-- the number that digits spell
abbrev pub digits_value : List ℕ → ℕ
digits_value digits = fold (λ number digit. number * 10 + (digit - 48)) 0 digits

-- words are the same where they differ in ASCII case alone
abbrev pub is_same_word : List ℕ → List ℕ → Bool
is_same_word first second = bytes_eq (map to_ascii_lowercase first) (map to_ascii_lowercase second)

-- what comes after this word, where it is the one at the front
abbrev pub behind_word : List ℕ → List ℕ → Option (List ℕ)
behind_word word here = if is_same_word (take (word_len here) here) word then Some (drop (word_len here) here) else None

-- what comes after this character, where it is the one at the front
abbrev pub behind_mark : ℕ → List ℕ → Option (List ℕ)
behind_mark mark [] = None
behind_mark mark (byte ∷ rest) = if byte == mark then Some rest else None

abbrev pub quote : ℕ
quote = 39

-- with a byte in front of the content
abbrev pub with_byte : ℕ → Option (List ℕ × List ℕ) → Option (List ℕ × List ℕ)
with_byte byte None = None
with_byte byte (Some found) = Some (byte ∷ found.0, found.1)

-- after its opening quote, a string goes up to its closing one, and two quotes in it stand for one: its content, and
-- what comes after it
unfoldable pub string_in : List ℕ → Option (List ℕ × List ℕ)
string_in [] = None
string_in (byte ∷ []) = if byte == quote then Some ([], []) else None
string_in (byte ∷ next ∷ rest) =
    if byte == quote
    then (if next == quote then with_byte quote (string_in rest) else Some ([], next ∷ rest))
    else with_byte byte (string_in (next ∷ rest))

-- what comes after a string that was found
abbrev pub string_end : Option (List ℕ × List ℕ) → Option (List ℕ)
string_end None = None
string_end (Some found) = Some found.1
