-- How lexemes are read, function by function. No public contract cites this; what a text stands for is told by `Statements`.
use Rattle.std.specs.{Prelude.{ℕ, zero, suc, Bool, true, false, if◌then◌else◌, ◌&&◌, ◌||◌, nat_le, List, [], ◌∷◌, length, filter, Option, Some, None, option_and_then, codes}, List.slice_split, Option.option_map, Str.bytes_eq}
use Prim.Native.String.{String}
use Rattle.pm_sql.specs.Tokens.{digits_value}
use Rattle.pm_settings.specs.{declared.{lexeme.Lexeme.{Lexeme, TheVariants.{Word, Digits, Quoted, Mark}}, statement.Statement.{Statement, TheVariants.{Set, Transaction, Reset, ResetAll, Show, DiscardAll, CloseAll, UnlistenAll, UnlockAll, Version, Number}}}, Lexemes.{is_word, is_mark, words_in}, Statements.{joined, is_comma, is_semicolon, is_filled, max_number}}

-- ---- parts

-- what is read after something, where it was found, or else others
abbrev pub choose : {A B : Type 0} → Option A → (A → Option B) → Option B → Option B
choose None read others = others
choose (Some rest) read others = read rest

abbrev pub both : {B : Type 0} → Option B → Option (List B) → Option (List B)
both None more = None
both (Some first) None = None
both (Some first) (Some more) = Some (first ∷ more)

-- what each stands for, where each stands for something
abbrev pub all_of : {A B : Type 0} → (A → Option B) → List A → Option (List B)
all_of read [] = Some []
all_of read (x ∷ xs) = both (read x) (all_of read xs)

abbrev pub is_empty : List Lexeme → Bool
is_empty [] = true
is_empty (lexeme ∷ lexemes) = false

-- ---- words

abbrev pub phrase : String → List (List ℕ)
phrase text = words_in (codes text)

-- what comes after these words, where they are the first
abbrev pub after_words : List (List ℕ) → List Lexeme → Option (List Lexeme)
after_words [] lexemes = Some lexemes
after_words (word ∷ words) [] = None
after_words (word ∷ words) (lexeme ∷ lexemes) = if is_word word lexeme then after_words words lexemes else None

abbrev pub is_end : Option (List Lexeme) → Bool
is_end None = false
is_end (Some rest) = is_empty rest

-- whether these words are all
abbrev pub are_words : List (List ℕ) → List Lexeme → Bool
are_words words lexemes = is_end (after_words words lexemes)

abbrev pub word_in : Lexeme → Option (List ℕ)
word_in (Word letters) = Some letters
word_in (Digits digits) = None
word_in (Quoted content) = None
word_in (Mark byte) = None

-- the only word
abbrev pub only_word : List Lexeme → Option (List ℕ)
only_word [] = None
only_word (first ∷ []) = word_in first
only_word (first ∷ second ∷ rest) = None

-- ---- values

abbrev pub plain : Lexeme → Option (List ℕ)
plain (Word letters) = Some letters
plain (Digits digits) = Some digits
plain (Quoted content) = Some content
plain (Mark byte) = None

abbrev pub signed : Lexeme → Lexeme → Option (List ℕ)
signed sign (Word letters) = None
signed sign (Digits digits) = if is_mark 43 sign then Some digits else (if is_mark 45 sign then Some (45 ∷ digits) else None)
signed sign (Quoted content) = None
signed sign (Mark byte) = None

abbrev pub value_in : List Lexeme → Option (List ℕ)
value_in [] = None
value_in (only ∷ []) = plain only
value_in (sign ∷ digits ∷ []) = signed sign digits
value_in (first ∷ second ∷ third ∷ rest) = None

unfoldable pub values_in : List Lexeme → Option (List ℕ)
values_in lexemes = option_map joined (all_of value_in (slice_split is_comma lexemes))

-- ---- SET

-- the statement by which a setting is given a value, or none
abbrev pub set_to : List ℕ → List Lexeme → Option (List ℕ) → Option Statement
set_to name list value = if are_words (phrase "default") list then Some (Set name None) else option_map (λ text. Set name (Some text)) value

abbrev pub one_in : List ℕ → List Lexeme → Option Statement
one_in name list = set_to name list (value_in list)

abbrev pub is_to : Lexeme → Bool
is_to lexeme = is_word (codes "to") lexeme || is_mark 61 lexeme

abbrev pub assigned : Option (List ℕ) → List Lexeme → Option Statement
assigned None rest = None
assigned (Some name) [] = None
assigned (Some name) (to ∷ list) = if is_to to then set_to name list (values_in list) else None

-- name ( TO | "=" ) value { "," value }
unfoldable pub assignment_in : List Lexeme → Option Statement
assignment_in [] = None
assignment_in (first ∷ rest) = assigned (word_in first) rest

-- ---- modes

abbrev pub flagged : List (List ℕ) → Bool → List Lexeme → Option (Bool × List Lexeme) → Option (Bool × List Lexeme)
flagged words is_read_only lexemes others = choose (after_words words lexemes) (λ rest. Some (is_read_only, rest)) others

-- the first mode, and what comes after it
unfoldable pub mode_in : List Lexeme → Option (Bool × List Lexeme)
mode_in lexemes =
    flagged (phrase "read only") true lexemes
    (flagged (phrase "read write") false lexemes
    (flagged (phrase "isolation level serializable") false lexemes
    (flagged (phrase "isolation level repeatable read") false lexemes
    (flagged (phrase "isolation level read committed") false lexemes
    (flagged (phrase "isolation level read uncommitted") false lexemes
    None)))))

abbrev pub after_comma : List Lexeme → List Lexeme
after_comma [] = []
after_comma (lexeme ∷ lexemes) = if is_comma lexeme then lexemes else lexeme ∷ lexemes

abbrev pub after_mode : List Lexeme → Bool → (List Lexeme → Option Bool) → Option Bool
after_mode [] is_read_only more = Some is_read_only
after_mode (lexeme ∷ lexemes) is_read_only more = more (after_comma (lexeme ∷ lexemes))

-- after the modes so far, in at most so many steps, of which each takes a mode
unfoldable pub modes_within : ℕ → Bool → List Lexeme → Option Bool
modes_within zero is_read_only lexemes = None
modes_within (suc steps) is_read_only lexemes = option_and_then (λ found. after_mode found.1 (is_read_only || found.0) (modes_within steps (is_read_only || found.0))) (mode_in lexemes)

abbrev pub modes_in : List Lexeme → Option Bool
modes_in lexemes = modes_within (length lexemes) false lexemes

abbrev pub transaction_in : List Lexeme → Option Statement
transaction_in lexemes = option_map Transaction (modes_in lexemes)

-- ---- the statements by their first word, after it

unfoldable pub set_in : List Lexeme → Option Statement
set_in lexemes =
    choose (assignment_in lexemes) Some
    (choose (after_words (phrase "time zone") lexemes) (one_in (codes "timezone"))
    (choose (after_words (phrase "names") lexemes) (one_in (codes "client_encoding"))
    (choose (after_words (phrase "transaction") lexemes) transaction_in
    (choose (after_words (phrase "session characteristics as transaction") lexemes) transaction_in
    (choose (after_words (phrase "session") lexemes) assignment_in
    (choose (after_words (phrase "local") lexemes) assignment_in
    None))))))

abbrev pub reset_of : List ℕ → Statement
reset_of name = if bytes_eq name (codes "all") then ResetAll else Reset name

abbrev pub reset_in : List Lexeme → Option Statement
reset_in lexemes = option_map reset_of (only_word lexemes)

unfoldable pub show_in : List Lexeme → Option Statement
show_in lexemes =
    choose (only_word lexemes) (λ name. Some (Show name))
    (if are_words (phrase "time zone") lexemes then Some (Show (codes "timezone"))
    else (if are_words (phrase "transaction isolation level") lexemes then Some (Show (codes "transaction_isolation")) else None))

abbrev pub are_parens : List Lexeme → Bool
are_parens [] = false
are_parens (first ∷ []) = false
are_parens (first ∷ second ∷ rest) = is_mark 40 first && (is_mark 41 second && is_empty rest)

abbrev pub calls : Option (List Lexeme) → Bool
calls None = false
calls (Some rest) = are_parens rest

-- whether this is a call without arguments
abbrev pub is_call : List (List ℕ) → List Lexeme → Bool
is_call name lexemes = calls (after_words name lexemes)

abbrev pub number_of : List ℕ → Option ℕ
number_of digits = if nat_le (digits_value digits) max_number then Some (digits_value digits) else None

abbrev pub number_by : Lexeme → Option ℕ
number_by (Word letters) = None
number_by (Digits digits) = number_of digits
number_by (Quoted content) = None
number_by (Mark byte) = None

abbrev pub number_in : List Lexeme → Option ℕ
number_in [] = None
number_in (only ∷ []) = number_by only
number_in (first ∷ second ∷ rest) = None

unfoldable pub select_in : List Lexeme → Option Statement
select_in lexemes =
    if is_call (phrase "version") lexemes then Some Version
    else (if is_call (phrase "pg_advisory_unlock_all") lexemes then Some UnlockAll else option_map Number (number_in lexemes))

abbrev pub is_star : List Lexeme → Bool
is_star [] = false
is_star (first ∷ rest) = is_mark 42 first && is_empty rest

abbrev pub unlisten_in : List Lexeme → Option Statement
unlisten_in lexemes = if is_star lexemes then Some UnlistenAll else None

abbrev pub all_in : List Lexeme → Option Statement
all_in lexemes = if are_words (phrase "discard all") lexemes then Some DiscardAll else (if are_words (phrase "close all") lexemes then Some CloseAll else None)

-- ---- all of them

unfoldable pub statement_in : List Lexeme → Option Statement
statement_in lexemes =
    choose (after_words (phrase "set") lexemes) set_in
    (choose (after_words (phrase "reset") lexemes) reset_in
    (choose (after_words (phrase "show") lexemes) show_in
    (choose (after_words (phrase "select") lexemes) select_in
    (choose (after_words (phrase "unlisten") lexemes) unlisten_in
    (all_in lexemes)))))

unfoldable pub statements_in : List Lexeme → Option (List Statement)
statements_in lexemes = all_of statement_in (filter is_filled (slice_split is_semicolon lexemes))
