-- How lexemes are found. No public contract cites this; which lexemes a text has is told by `Lexemes`.
use Rattle.std.specs.{Prelude.{ℕ, Bool, if◌then◌else◌, ◌==◌, nat_lt, List, [], ◌∷◌, take, drop, Option, Some, None}, Borrow.Bor, declared.string.String.String, String.string_bytes, declared.vec.Vec.Vec}
use Rattle.pm_sql.specs.{Tokens.{starts_with_letter, word_len, digits_len, behind_mark, quote, string_in}, Token.{Token, Word, Digits, Quoted, Mark, is_joined}}
use Rattle.pm_settings.specs.{declared.lexeme.Lexeme.Lexeme, Lexemes.{lexeme_of, IsLexed}}

-- a character that is a token by itself
abbrev pub mark_at : List ℕ → Option (Token × List ℕ)
mark_at [] = None
mark_at (byte ∷ rest) = if nat_lt byte 128 then Some (Mark byte, rest) else None

abbrev pub quoted_at : Option (List ℕ × List ℕ) → Option (Token × List ℕ)
quoted_at None = None
quoted_at (Some found) = Some (Quoted found.0, found.1)

-- a token that is neither word nor digits: a string, where a quote was found, or else a character
abbrev pub other_at : List ℕ → Option (List ℕ) → Option (Token × List ℕ)
other_at here None = mark_at here
other_at here (Some begin) = quoted_at (string_in begin)

-- the token at the front, where no white space stands before it, and what comes after it
unfoldable pub token_at : List ℕ → Option (Token × List ℕ)
token_at here =
    if starts_with_letter here then Some (Word (take (word_len here) here), drop (word_len here) here)
    else (if digits_len here == 0 then other_at here (behind_mark quote here) else Some (Digits (take (digits_len here) here), drop (digits_len here) here))

-- a token as a lexeme, unless a word stands right after digits
abbrev pub unless_joined : Bool → Token → List ℕ → Option (Lexeme × List ℕ)
unless_joined is_joined token rest = if is_joined then None else Some (lexeme_of token, rest)

abbrev pub lexeme_at : Option (Token × List ℕ) → Option (Lexeme × List ℕ)
lexeme_at None = None
lexeme_at (Some found) = unless_joined (is_joined found.0 found.1) found.0 found.1

-- ---- what is returned

abbrev pub shown : Option (Lexeme × Bor (List ℕ)) → Option (Lexeme × List ℕ)
shown None = None
shown (Some found) = Some (found.0, found.1.now)

module _ {Z : Type 0} where
  abbrev pub string_shown : Option (String Z × Bor (List ℕ)) → Option (List ℕ × List ℕ)
  string_shown None = None
  string_shown (Some found) = Some (string_bytes found.0, found.1.now)

  -- a text has these lexemes and no others, or none at all
  abbrev pub AreLexemes : List ℕ → Option (Vec Lexeme Z) → Type 0
  AreLexemes text None = (lexemes : List Lexeme) → ¬ (IsLexed text lexemes)
  AreLexemes text (Some found) = IsLexed text found.items
