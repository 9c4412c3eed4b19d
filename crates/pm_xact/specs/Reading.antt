-- How a text that begins or ends a block is read from left to right. No public contract cites this; what a text asks for is told by `Control`.
use Rattle.std.specs.{Prelude.{ℕ, zero, suc, Bool, true, false, if◌then◌else◌, ◌==◌, ◌&&◌, ◌||◌, List, [], ◌∷◌, length, Option, Some, None, unwrap_or, codes}, Option.option_map, Char.{is_ascii_whitespace, is_ascii_lowercase, to_ascii_lowercase}, List.list_all, Str.bytes_eq, Borrow.Bor}
use Rattle.pm_sql.specs.{Tokens.{is_word_byte, starts_with_letter}, Token.{Token, Word, Digits, Quoted, Mark, begins_with}}
use Rattle.pm_xact.specs.declared.{access.Access.{Access, TheVariants.{ReadWrite, ReadOnly}}, asked.Asked.{Asked, TheVariants.{Begin, Commit, Rollback}}}

-- ---- tokens

-- a letter before the tokens of what follows it, with whose first word it is one where no space is between
abbrev pub with_letter : ℕ → Bool → List Token → List Token
with_letter letter true (Word letters ∷ tokens) = Word (letter ∷ letters) ∷ tokens
with_letter letter goes_on tokens = Word (letter ∷ []) ∷ tokens

-- The tokens of a text, words in lower case. Digits, and words that begin with them, stand here as words, and a string as its
-- characters: none of them stands in what begins or ends a block
unfoldable pub tokens_of : List ℕ → List Token
tokens_of [] = []
tokens_of (byte ∷ rest) =
    if is_ascii_whitespace byte then tokens_of rest
    else (if is_word_byte byte then with_letter (to_ascii_lowercase byte) (begins_with is_word_byte rest) (tokens_of rest) else Mark byte ∷ tokens_of rest)

-- white space, or a semicolon
abbrev pub is_blank : ℕ → Bool
is_blank byte = is_ascii_whitespace byte || byte == 59

-- a word that is looked for, in lower case
abbrev pub is_keyword : List ℕ → Bool
is_keyword word = starts_with_letter word && list_all is_ascii_lowercase word

-- what stands after this word, where it comes next
abbrev pub after_word : List ℕ → List Token → Option (List Token)
after_word word (Word letters ∷ tokens) = if bytes_eq letters word then Some tokens else None
after_word word tokens = None

-- after a comma, where one comes next
abbrev pub after_comma : List Token → List Token
after_comma (Mark byte ∷ tokens) = if byte == 44 then tokens else Mark byte ∷ tokens
after_comma tokens = tokens

abbrev pub is_semicolon : Token → Bool
is_semicolon (Word letters) = false
is_semicolon (Digits digits) = false
is_semicolon (Quoted content) = false
is_semicolon (Mark byte) = byte == 59

abbrev pub after_semicolons : List Token → List Token
after_semicolons [] = []
after_semicolons (token ∷ tokens) = if is_semicolon token then after_semicolons tokens else token ∷ tokens

-- nothing comes but semicolons
abbrev pub is_end : List Token → Bool
is_end tokens = list_all is_semicolon tokens

-- ---- the grammar

-- the access that was found, if any, and the tokens after it
abbrev pub found_in : Option Access × Bor (List ℕ) → Option Access × List Token
found_in found = (found.0, tokens_of found.1.now)

-- what was found is read on, and where there was nothing the others are read
abbrev pub or_else : {A B : Type 0} → Option A → (A → Option B) → Option B → Option B
or_else None read others = others
or_else (Some found) read others = read found

abbrev pub after_either : List ℕ → List ℕ → List Token → Option (List Token)
after_either first second tokens = or_else (after_word first tokens) Some (after_word second tokens)

unfoldable pub after_level : List Token → Option (List Token)
after_level tokens =
    or_else (after_word (codes "serializable") tokens) Some
    (or_else (after_word (codes "repeatable") tokens) (after_word (codes "read"))
    (or_else (after_word (codes "read") tokens) (after_either (codes "committed") (codes "uncommitted"))
    None))

unfoldable pub after_other_mode : List Token → Option (List Token)
after_other_mode tokens =
    or_else (after_word (codes "isolation") tokens) (λ rest. or_else (after_word (codes "level") rest) after_level None)
    (or_else (after_word (codes "not") tokens) (after_word (codes "deferrable"))
    (after_word (codes "deferrable") tokens))

-- the access that a mode names, and what stands after it; after READ
unfoldable pub access_at : List Token → Option (Option Access × List Token)
access_at tokens =
    or_else (after_word (codes "write") tokens) (λ rest. Some (Some ReadWrite, rest))
    (option_map (λ rest. (Some ReadOnly, rest)) (after_word (codes "only") tokens))

unfoldable pub mode_at : List Token → Option (Option Access × List Token)
mode_at tokens =
    or_else (after_word (codes "read") tokens) access_at
    (option_map (λ rest. (None, rest)) (after_other_mode tokens))

-- the access after modes that go to the end, where this one stood before, in at most so many steps, of which each takes a mode
unfoldable pub access_within : ℕ → Access → List Token → Option Access
access_within zero access tokens = Some access
access_within (suc steps) access tokens =
    if is_end tokens then Some access
    else or_else (mode_at (after_comma tokens)) (λ found. access_within steps (unwrap_or found.0 access) found.1) None

-- after a mode
unfoldable pub access_after : Access → List Token → Option Access
access_after access tokens = access_within (length tokens) access tokens

-- after the opening
unfoldable pub access_in : List Token → Option Access
access_in tokens =
    if is_end tokens then Some ReadWrite
    else or_else (mode_at tokens) (λ found. access_after (unwrap_or found.0 ReadWrite) found.1) None

unfoldable pub after_noise : List Token → List Token
after_noise tokens = unwrap_or (after_either (codes "work") (codes "transaction") tokens) tokens

unfoldable pub after_opening : List Token → Option (List Token)
after_opening tokens =
    or_else (after_word (codes "start") tokens) (after_word (codes "transaction"))
    (option_map after_noise (after_word (codes "begin") tokens))

-- this is asked for, where nothing comes but noise
abbrev pub if_alone : Asked → List Token → Option Asked
if_alone asked tokens = if is_end (after_noise tokens) then Some asked else None

-- what tokens ask for that begin or end a block
unfoldable pub control_of : List Token → Option Asked
control_of tokens =
    let here = after_semicolons tokens in
    or_else (after_opening here) (λ rest. option_map Begin (access_in rest))
    (or_else (after_either (codes "commit") (codes "end") here) (if_alone Commit)
    (or_else (after_either (codes "rollback") (codes "abort") here) (if_alone Rollback)
    None))
