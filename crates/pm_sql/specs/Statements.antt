-- The grammar of query texts, as relations between whole lists of tokens, words in lower case, and what they stand for.
use Rattle.std.specs.Prelude.{◌≡◌, ℕ, ℤ, pos, neg_ℤ, ◌^◌, ◌<◌, ◌≤◌, ◌⊎◌, List, [], ◌∷◌, ◌++◌, length, count_by, map, Option, Some, None, codes}
use Prim.Native.String.{String}
use Prim.Native.Char.{Char, code}
use Rattle.pm_rows.specs.Limits.{max_value_bytes, max_changes}
use Rattle.pm_sql.specs.{declared.{fault.Kind.{Kind, TheVariants.{Syntax, Table, Range, TooLong, TooMany}}, stmt.Stmt.{Stmt, TheVariants.{Insert, Update, Delete, Select, Count, Sleep}}}, Limits.{max_sleep_seconds, is_writing}, Tokens.digits_value, Token.{Token, Word, Digits, Quoted, Mark, in_lower_case, Spells}}

-- ---- limits

-- The order of the kinds of faults. Each but Syntax has a limit, and the grammar is said with the limits up to a kind, which it
-- calls `kept`: with `Syntax` it keeps none of them, and with `TooMany` it keeps all
abbrev pub rank : Kind → ℕ
rank Syntax = 0
rank Table = 1
rank Range = 2
rank TooLong = 3
rank TooMany = 4

-- where the limit of this kind is kept, this holds
abbrev pub Keeps : Kind → Kind → Type 0 → Type 0
Keeps kept kind P = rank kind ≤ rank kept → P

-- ---- statements

abbrev pub word : String → Token
word letters = Word (codes letters)

abbrev pub mark : Char → Token
mark character = Mark (code character)

-- name := word; the one table is kv
abbrev pub IsName : Kind → Token → Type 0
IsName kept token = (letters : List ℕ) × (token ≡ Word letters) × Keeps kept Table (letters ≡ codes "kv")

-- int := [ "+" | "-" ] digits; it fits 64 bits
abbrev pub IsInt : Kind → List Token → ℤ → Type 0
IsInt kept tokens value = (digits : List ℕ) × (
    ((tokens ≡ Digits digits ∷ []) × (value ≡ pos (digits_value digits)) × Keeps kept Range (digits_value digits < 2 ^ 63))
    ⊎ ((tokens ≡ mark "+" ∷ Digits digits ∷ []) × (value ≡ pos (digits_value digits)) × Keeps kept Range (digits_value digits < 2 ^ 63))
    ⊎ ((tokens ≡ mark "-" ∷ Digits digits ∷ []) × (value ≡ neg_ℤ (pos (digits_value digits))) × Keeps kept Range (digits_value digits ≤ 2 ^ 63))
    )

-- a string that is short enough for a value
abbrev pub IsValue : Kind → Token → List ℕ → Type 0
IsValue kept token value = (token ≡ Quoted value) × Keeps kept TooLong (length value ≤ max_value_bytes)

-- [ "(" k "," v ")" ]
abbrev pub IsIntoColumns : List Token → Type 0
IsIntoColumns tokens = (tokens ≡ []) ⊎ (tokens ≡ mark "(" ∷ word "k" ∷ mark "," ∷ word "v" ∷ mark ")" ∷ [])

-- cols := k "," v | "*"
abbrev pub IsSelectColumns : List Token → Type 0
IsSelectColumns tokens = (tokens ≡ word "k" ∷ mark "," ∷ word "v" ∷ []) ⊎ (tokens ≡ mark "*" ∷ [])

-- [ WHERE k "=" int ]
abbrev pub IsCondition : Kind → List Token → Option ℤ → Type 0
IsCondition kept tokens None = tokens ≡ []
IsCondition kept tokens (Some key) = (int : List Token) × IsInt kept int key × (tokens ≡ word "where" ∷ word "k" ∷ mark "=" ∷ int)

-- [ ORDER BY k ]
abbrev pub IsOrder : List Token → Type 0
IsOrder tokens = (tokens ≡ []) ⊎ (tokens ≡ word "order" ∷ word "by" ∷ word "k" ∷ [])

-- INSERT INTO name [ "(" k "," v ")" ] VALUES "(" int "," string ")"
abbrev pub IsInsert : Kind → List Token → ℤ → List ℕ → Type 0
IsInsert kept tokens key value = (name string : Token) × (columns int : List Token) × IsName kept name × IsIntoColumns columns × IsInt kept int key × IsValue kept string value
    × (tokens ≡ word "insert" ∷ word "into" ∷ name ∷ columns ++ word "values" ∷ mark "(" ∷ int ++ mark "," ∷ string ∷ mark ")" ∷ [])

-- UPDATE name SET v "=" string WHERE k "=" int
abbrev pub IsUpdate : Kind → List Token → ℤ → List ℕ → Type 0
IsUpdate kept tokens key value = (name string : Token) × (int : List Token) × IsName kept name × IsValue kept string value × IsInt kept int key
    × (tokens ≡ word "update" ∷ name ∷ word "set" ∷ word "v" ∷ mark "=" ∷ string ∷ word "where" ∷ word "k" ∷ mark "=" ∷ int)

-- DELETE FROM name WHERE k "=" int
abbrev pub IsDelete : Kind → List Token → ℤ → Type 0
IsDelete kept tokens key = (name : Token) × (int : List Token) × IsName kept name × IsInt kept int key
    × (tokens ≡ word "delete" ∷ word "from" ∷ name ∷ word "where" ∷ word "k" ∷ mark "=" ∷ int)

-- SELECT cols FROM name [ WHERE k "=" int ] [ ORDER BY k ]
abbrev pub IsSelect : Kind → List Token → Option ℤ → Type 0
IsSelect kept tokens key = (name : Token) × (cols condition order : List Token) × IsName kept name × IsSelectColumns cols × IsCondition kept condition key × IsOrder order
    × (tokens ≡ word "select" ∷ cols ++ word "from" ∷ name ∷ condition ++ order)

-- SELECT count "(" "*" ")" FROM name
abbrev pub IsCount : Kind → List Token → Type 0
IsCount kept tokens = (name : Token) × IsName kept name × (tokens ≡ word "select" ∷ word "count" ∷ mark "(" ∷ mark "*" ∷ mark ")" ∷ word "from" ∷ name ∷ [])

-- SELECT pg_sleep "(" digits ")"; at most a day
abbrev pub IsSleep : Kind → List Token → ℕ → Type 0
IsSleep kept tokens seconds = (digits : List ℕ) × (seconds ≡ digits_value digits) × Keeps kept Range (seconds ≤ max_sleep_seconds)
    × (tokens ≡ word "select" ∷ word "pg_sleep" ∷ mark "(" ∷ Digits digits ∷ mark ")" ∷ [])

-- stmt
abbrev pub IsStatement : Kind → List Token → Stmt → Type 0
IsStatement kept tokens (Insert key value) = IsInsert kept tokens key value
IsStatement kept tokens (Update key value) = IsUpdate kept tokens key value
IsStatement kept tokens (Delete key) = IsDelete kept tokens key
IsStatement kept tokens (Select key) = IsSelect kept tokens key
IsStatement kept tokens Count = IsCount kept tokens
IsStatement kept tokens (Sleep seconds) = IsSleep kept tokens seconds

-- ---- queries

-- { ";" }
abbrev pub AreSemicolons : List Token → Type 0
AreSemicolons [] = Unit {0}
AreSemicolons (token ∷ tokens) = (token ≡ mark ";") × AreSemicolons tokens

-- after a statement: { ";" { ";" } stmt } { ";" }
abbrev pub IsMore : Kind → List Token → List Stmt → Type 0
IsMore kept tokens [] = AreSemicolons tokens
IsMore kept tokens (stmt ∷ stmts) = (semicolons first more : List Token) × AreSemicolons semicolons × IsStatement kept first stmt × IsMore kept more stmts
    × (tokens ≡ mark ";" ∷ semicolons ++ first ++ more)

-- query := { ";" } [ stmt { ";" { ";" } stmt } { ";" } ]
abbrev pub AreStatements : Kind → List Token → List Stmt → Type 0
AreStatements kept tokens [] = AreSemicolons tokens
AreStatements kept tokens (stmt ∷ stmts) = (semicolons first more : List Token) × AreSemicolons semicolons × IsStatement kept first stmt × IsMore kept more stmts
    × (tokens ≡ semicolons ++ first ++ more)

-- a query, of which at most a thousand statements write
abbrev pub IsQuery : Kind → List Token → List Stmt → Type 0
IsQuery kept tokens stmts = AreStatements kept tokens stmts × Keeps kept TooMany (count_by is_writing stmts ≤ max_changes)

-- a text spells a query, words in any case, that stands for these statements and keeps all limits
abbrev pub IsQueryText : List ℕ → List Stmt → Type 0
IsQueryText text stmts = (tokens : List Token) × Spells text tokens × IsQuery TooMany (map in_lower_case tokens) stmts
