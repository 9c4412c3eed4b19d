-- Lexemes: the tokens of a text, words in lower case.
use Rattle.std.specs.{Prelude.{◌≡◌, ℕ, Bool, false, ◌==◌, List, map}, Char.to_ascii_lowercase, List.slice_split, Str.bytes_eq}
use Rattle.pm_sql.specs.Token.{Token, Word, Digits, Quoted, Mark, Spells}
use Rattle.pm_settings.specs.declared.lexeme.Lexeme.{Lexeme}
use Rattle.pm_settings.specs.declared.lexeme.Lexeme.TheVariants as lexemes

abbrev pub lexeme_of : Token → Lexeme
lexeme_of (Word letters) = lexemes.Word (map to_ascii_lowercase letters)
lexeme_of (Digits digits) = lexemes.Digits digits
lexeme_of (Quoted content) = lexemes.Quoted content
lexeme_of (Mark byte) = lexemes.Mark byte

-- a text is these lexemes, up to its end
abbrev pub IsLexed : List ℕ → List Lexeme → Type 0
IsLexed text lexemes = (tokens : List Token) × Spells text tokens × (lexemes ≡ map lexeme_of tokens)

abbrev pub is_word : List ℕ → Lexeme → Bool
is_word letters (lexemes.Word own) = bytes_eq own letters
is_word letters (lexemes.Digits digits) = false
is_word letters (lexemes.Quoted content) = false
is_word letters (lexemes.Mark byte) = false

abbrev pub is_mark : ℕ → Lexeme → Bool
is_mark byte (lexemes.Word letters) = false
is_mark byte (lexemes.Digits digits) = false
is_mark byte (lexemes.Quoted content) = false
is_mark byte (lexemes.Mark own) = own == byte

-- the words of a text that has single spaces between them
abbrev pub words_in : List ℕ → List (List ℕ)
words_in text = slice_split (λ byte. byte == 32) text
