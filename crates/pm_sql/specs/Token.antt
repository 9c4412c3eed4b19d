-- Tokens, and up to where which tokens stand in a text.
use Rattle.std.specs.{Prelude.{◌≡◌, ℕ, ◌<◌, Bool, false, if◌then◌else◌, ◌==◌, List, [], ◌∷◌, ◌++◌, map, IsTrue, IsFalse}, Char.{is_ascii_whitespace, is_ascii_digit, to_ascii_lowercase}, List.list_all}
use Rattle.pm_sql.specs.Tokens.{skipped, is_word_byte, starts_with_letter, quote}

-- A word has its letters as they are spelled, and a string its content. A mark is any other character but white space. It is one
-- byte below 128: a character that isn't ASCII stands in no query outside a string
pub data Token : Type 0 where
  Word : (letters : List ℕ) → Token
  Digits : (digits : List ℕ) → Token
  Quoted : (content : List ℕ) → Token
  Mark : (byte : ℕ) → Token

-- a word in lower case, and every other token as it is
abbrev pub in_lower_case : Token → Token
in_lower_case (Word letters) = Word (map to_ascii_lowercase letters)
in_lower_case (Digits digits) = Digits digits
in_lower_case (Quoted content) = Quoted content
in_lower_case (Mark byte) = Mark byte

-- two quotes for each
abbrev pub doubled : List ℕ → List ℕ
doubled [] = []
doubled (byte ∷ rest) = if byte == quote then quote ∷ quote ∷ doubled rest else byte ∷ doubled rest

abbrev pub spelling : Token → List ℕ
spelling (Word letters) = letters
spelling (Digits digits) = digits
spelling (Quoted content) = quote ∷ doubled content ++ quote ∷ []
spelling (Mark byte) = byte ∷ []

-- what a token may be made of
abbrev pub IsToken : Token → Type 0
IsToken (Word letters) = IsTrue (starts_with_letter letters) × IsTrue (list_all is_word_byte letters)
IsToken (Digits digits) = (digits ≡ [] → ⊥) × IsTrue (list_all is_ascii_digit digits)
IsToken (Quoted content) = Unit {0}
IsToken (Mark byte) = (byte < 128) × IsFalse (is_ascii_whitespace byte) × IsFalse (is_word_byte byte) × IsFalse (byte == quote)

-- whether a byte that passes stands at the front
abbrev pub begins_with : (ℕ → Bool) → List ℕ → Bool
begins_with test [] = false
begins_with test (byte ∷ rest) = test byte

-- whether the text right after a token would continue it
abbrev pub is_continued : Token → List ℕ → Bool
is_continued (Word letters) rest = begins_with is_word_byte rest
is_continued (Digits digits) rest = begins_with is_ascii_digit rest
is_continued (Quoted content) rest = begins_with (λ byte. byte == quote) rest
is_continued (Mark byte) rest = false

abbrev pub IsWhite : List ℕ → Type 0
IsWhite text = IsTrue (list_all is_ascii_whitespace text)

-- a text is white space, this token and this rest, and the token ends there
pub record IsFront (text : List ℕ) (token : Token) (rest : List ℕ) : Type 0 where
  pub space : List ℕ
  pub split : text ≡ space ++ (spelling token ++ rest)
  pub white : IsWhite space
  pub made : IsToken token
  pub ends : IsFalse (is_continued token rest)

-- whether a letter or `_` comes right after digits: no token may stand there
abbrev pub is_joined : Token → List ℕ → Bool
is_joined (Word letters) rest = false
is_joined (Digits digits) rest = starts_with_letter rest
is_joined (Quoted content) rest = false
is_joined (Mark byte) rest = false

-- after a token stands this rest, and then come these tokens, if any
abbrev pub IsApart : Token → List ℕ → List Token → Type 0
IsApart token rest [] = Unit {0}
IsApart token rest (next ∷ tokens) = IsFalse (is_joined token rest)

-- up to here a text is these tokens, with white space before any of them and before what stands here
abbrev pub IsUpTo : List ℕ → List Token → List ℕ → Type 0
IsUpTo text [] here = here ≡ skipped text
IsUpTo text (token ∷ tokens) here = (rest : List ℕ) × IsFront text token rest × IsApart token rest tokens × IsUpTo rest tokens here

-- a text is these tokens, up to its end
abbrev pub Spells : List ℕ → List Token → Type 0
Spells text tokens = IsUpTo text tokens []
