-- The grammar of session statements, as relations between the lexemes of a statement and what it stands for.
use Rattle.std.specs.{Prelude.{◌≡◌, ◌≢◌, ℕ, ◌≤◌, ◌⊎◌, Bool, true, false, List, [], ◌∷◌, ◌++◌, map, filter, Option, Some, None, codes}, List.{AllZip, list_any, slice_split}}
use Prim.Native.String.{String}
use Prim.Native.Char.{Char, code}
use Rattle.pm_sql.specs.Tokens.{digits_value}
use Rattle.pm_settings.specs.{declared.{lexeme.Lexeme.{Lexeme, TheVariants.{Word, Digits, Quoted, Mark}}, statement.Statement.{Statement, TheVariants.{Set, Transaction, Reset, ResetAll, Show, DiscardAll, CloseAll, UnlistenAll, UnlockAll, Version, Number}}}, Lexemes.{IsLexed, is_mark, words_in}}

-- words, as `words "discard all"`
abbrev pub words : String → List Lexeme
words text = map Word (words_in (codes text))

abbrev pub mark : Char → Lexeme
mark character = Mark (code character)

-- ---- values

-- value := word | [ "+" | "-" ] digits | string
abbrev pub IsValue : List Lexeme → List ℕ → Type 0
IsValue lexemes value =
    (lexemes ≡ Word value ∷ []) ⊎ (lexemes ≡ Quoted value ∷ []) ⊎ (lexemes ≡ Digits value ∷ []) ⊎ (lexemes ≡ mark "+" ∷ Digits value ∷ [])
    ⊎ ((digits : List ℕ) × (lexemes ≡ mark "-" ∷ Digits digits ∷ []) × (value ≡ code "-" ∷ digits))

-- values as one text
abbrev pub joined : List (List ℕ) → List ℕ
joined [] = []
joined (value ∷ []) = value
joined (value ∷ next ∷ values) = value ++ codes ", " ++ joined (next ∷ values)

abbrev pub is_comma : Lexeme → Bool
is_comma lexeme = is_mark 44 lexeme

-- value { "," value }
abbrev pub AreValues : List Lexeme → List ℕ → Type 0
AreValues lexemes text = (values : List (List ℕ)) × AllZip IsValue (slice_split is_comma lexemes) values × (text ≡ joined values)

-- a text, or DEFAULT alone, by which none is told
abbrev pub IsGiven : (List Lexeme → List ℕ → Type 0) → List Lexeme → Option (List ℕ) → Type 0
IsGiven IsText lexemes None = lexemes ≡ words "default"
IsGiven IsText lexemes (Some text) = IsText lexemes text × (lexemes ≢ words "default")

-- ---- SET

-- [ SESSION | LOCAL ]
abbrev pub IsScope : List Lexeme → Type 0
IsScope lexemes = (lexemes ≡ []) ⊎ (lexemes ≡ words "session") ⊎ (lexemes ≡ words "local")

-- TO | "="
abbrev pub IsTo : Lexeme → Type 0
IsTo lexeme = (lexeme ≡ Word (codes "to")) ⊎ (lexeme ≡ mark "=")

-- SET [ SESSION | LOCAL ] name ( TO | "=" ) value { "," value }
abbrev pub IsAssignment : List Lexeme → List ℕ → Option (List ℕ) → Type 0
IsAssignment lexemes name value = (scope list : List Lexeme) × (to : Lexeme) × IsScope scope × IsTo to × IsGiven AreValues list value
    × (lexemes ≡ words "set" ++ (scope ++ Word name ∷ to ∷ list))

-- SET TIME ZONE value
abbrev pub IsZone : List Lexeme → List ℕ → Option (List ℕ) → Type 0
IsZone lexemes name value = (list : List Lexeme) × IsGiven IsValue list value × (name ≡ codes "timezone") × (lexemes ≡ words "set time zone" ++ list)

-- SET NAMES value
abbrev pub IsNames : List Lexeme → List ℕ → Option (List ℕ) → Type 0
IsNames lexemes name value = (list : List Lexeme) × IsGiven IsValue list value × (name ≡ codes "client_encoding") × (lexemes ≡ words "set names" ++ list)

abbrev pub IsSet : List Lexeme → List ℕ → Option (List ℕ) → Type 0
IsSet lexemes name value = IsAssignment lexemes name value ⊎ IsZone lexemes name value ⊎ IsNames lexemes name value

-- ---- modes of transactions

abbrev pub IsLevel : List Lexeme → Type 0
IsLevel lexemes = (lexemes ≡ words "isolation level serializable") ⊎ (lexemes ≡ words "isolation level repeatable read")
    ⊎ (lexemes ≡ words "isolation level read committed") ⊎ (lexemes ≡ words "isolation level read uncommitted")

-- a mode, and whether it is READ ONLY
abbrev pub IsMode : List Lexeme → (is_read_only : Bool) → Type 0
IsMode lexemes true = lexemes ≡ words "read only"
IsMode lexemes false = (lexemes ≡ words "read write") ⊎ IsLevel lexemes

abbrev pub IsCommaOrNone : List Lexeme → Type 0
IsCommaOrNone lexemes = (lexemes ≡ []) ⊎ (lexemes ≡ mark "," ∷ [])

-- mode { [ "," ] mode }
abbrev pub AreModes : List Lexeme → (are_read_only : List Bool) → Type 0
AreModes lexemes [] = ⊥
AreModes lexemes (is_read_only ∷ []) = IsMode lexemes is_read_only
AreModes lexemes (is_read_only ∷ next ∷ more) = (first comma rest : List Lexeme) × IsMode first is_read_only × IsCommaOrNone comma × AreModes rest (next ∷ more)
    × (lexemes ≡ first ++ (comma ++ rest))

-- SET [ SESSION CHARACTERISTICS AS ] TRANSACTION modes, and whether one of these is READ ONLY
abbrev pub IsTransaction : List Lexeme → (is_read_only : Bool) → Type 0
IsTransaction lexemes is_read_only = (modes : List Lexeme) × (flags : List Bool) × AreModes modes flags × (is_read_only ≡ list_any (λ flag. flag) flags)
    × ((lexemes ≡ words "set transaction" ++ modes) ⊎ (lexemes ≡ words "set session characteristics as transaction" ++ modes))

-- ---- SHOW and SELECT

-- SHOW name | TIME ZONE | TRANSACTION ISOLATION LEVEL
abbrev pub IsShow : List Lexeme → List ℕ → Type 0
IsShow lexemes name = (lexemes ≡ words "show" ++ Word name ∷ []) ⊎ ((lexemes ≡ words "show time zone") × (name ≡ codes "timezone"))
    ⊎ ((lexemes ≡ words "show transaction isolation level") × (name ≡ codes "transaction_isolation"))

-- the largest number that SELECT shows
abbrev pub max_number : ℕ
max_number = 2147483647

-- SELECT digits
abbrev pub IsNumber : List Lexeme → ℕ → Type 0
IsNumber lexemes number = (digits : List ℕ) × (lexemes ≡ words "select" ++ Digits digits ∷ []) × (number ≡ digits_value digits) × (number ≤ max_number)

-- ---- all of them

abbrev pub IsStatement : List Lexeme → Statement → Type 0
IsStatement lexemes (Set name value) = IsSet lexemes name value
IsStatement lexemes (Transaction is_read_only) = IsTransaction lexemes is_read_only
IsStatement lexemes (Reset name) = (lexemes ≡ words "reset" ++ Word name ∷ []) × (name ≢ codes "all")
IsStatement lexemes ResetAll = lexemes ≡ words "reset all"
IsStatement lexemes (Show name) = IsShow lexemes name
IsStatement lexemes DiscardAll = lexemes ≡ words "discard all"
IsStatement lexemes CloseAll = lexemes ≡ words "close all"
IsStatement lexemes UnlistenAll = lexemes ≡ words "unlisten" ++ mark "*" ∷ []
IsStatement lexemes UnlockAll = lexemes ≡ words "select pg_advisory_unlock_all" ++ mark "(" ∷ mark ")" ∷ []
IsStatement lexemes Version = lexemes ≡ words "select version" ++ mark "(" ∷ mark ")" ∷ []
IsStatement lexemes (Number number) = IsNumber lexemes number

abbrev pub is_semicolon : Lexeme → Bool
is_semicolon lexeme = is_mark 59 lexeme

abbrev pub is_filled : List Lexeme → Bool
is_filled [] = false
is_filled (lexeme ∷ lexemes) = true

-- what stands between semicolons is a statement or nothing, and one statement stands there at least
abbrev pub AreStatements : List Lexeme → List Statement → Type 0
AreStatements lexemes statements = AllZip IsStatement (filter is_filled (slice_split is_semicolon lexemes)) statements × (statements ≢ [])

-- a text stands for these session statements
abbrev pub IsSessionText : List ℕ → List Statement → Type 0
IsSessionText text statements = (lexemes : List Lexeme) × IsLexed text lexemes × AreStatements lexemes statements
