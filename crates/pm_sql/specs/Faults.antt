-- Why a text is no query: the first token from the left that no query has there, its place, and which limit it passes, if any.
use Rattle.std.specs.Prelude.{◌≡◌, ◌≢◌, ℕ, ◌+◌, ◌⊎◌, List, [], ◌∷◌, ◌++◌, length, map, Result, Ok, Err}
use Rattle.pm_sql.specs.{declared.{stmt.Stmt.Stmt, fault.Kind.Kind, query.SqlFault.{SqlFault, TheVariants.{Syntax, Table, Range, TooLong, TooMany, NoMemory}}, script.Script.Script}, Token.{Token, in_lower_case, IsUpTo}, Statements.IsQuery}
use Rattle.pm_sql.specs.declared.fault.Kind.TheVariants as kinds

-- some query that keeps the limits up to this kind begins with these tokens
abbrev pub CanGoOn : Kind → List Token → Type 0
CanGoOn kept front = (more : List Token) × (stmts : List Stmt) × IsQuery kept (map in_lower_case front ++ more) stmts

-- the tokens of a text are these and one more, and with that one a query can go on
abbrev pub SomeFollows : Kind → List ℕ → List Token → Type 0
SomeFollows kept text front = (token : Token) × (rest : List ℕ) × IsUpTo text (front ++ token ∷ []) rest × CanGoOn kept (front ++ token ∷ [])

-- with what comes after these tokens of a text no query can go on, whatever follows it: with a token, or with no token at all, as
-- at a word right after digits, at a string that doesn't end, and at a character that isn't ASCII
abbrev pub NoneFollows : Kind → List ℕ → List Token → Type 0
NoneFollows kept text front = (token : Token) (rest : List ℕ) → IsUpTo text (front ++ token ∷ []) rest → CanGoOn kept (front ++ token ∷ []) → ⊥

-- the text ends too early: it is no query yet
abbrev pub EndsTooEarly : List Token → List ℕ → Type 0
EndsTooEarly front here = (here ≡ []) × ((stmts : List Stmt) → IsQuery kinds.TooMany (map in_lower_case front) stmts → ⊥)

-- what stands here is refused as such a fault: the limits before it allow it, and with this limit none does
abbrev pub IsRefusedHere : Kind → List ℕ → List Token → List ℕ → Type 0
IsRefusedHere kinds.Syntax text front here = EndsTooEarly front here ⊎ ((here ≢ []) × NoneFollows kinds.Syntax text front)
IsRefusedHere kinds.Table text front here = SomeFollows kinds.Syntax text front × NoneFollows kinds.Table text front
IsRefusedHere kinds.Range text front here = SomeFollows kinds.Table text front × NoneFollows kinds.Range text front
IsRefusedHere kinds.TooLong text front here = SomeFollows kinds.Range text front × NoneFollows kinds.TooLong text front
IsRefusedHere kinds.TooMany text front here = SomeFollows kinds.TooLong text front × NoneFollows kinds.TooMany text front

-- at this place, which is told in bytes from the start, a text has a fault of this kind: with the tokens before it a query that
-- keeps all limits can go on, and what stands there is refused
pub record IsFaultAt (text : List ℕ) (kind : Kind) (place : ℕ) : Type 0 where
  pub front : List Token
  pub here : List ℕ
  pub up_to : IsUpTo text front here
  pub at : place + length here ≡ length text
  pub goes_on : CanGoOn kinds.TooMany front
  pub refused : IsRefusedHere kind text front here

-- a fault that is told is the text's; of memory nothing is said
abbrev pub IsFaultOf : List ℕ → SqlFault → Type 0
IsFaultOf text (Syntax place) = IsFaultAt text kinds.Syntax place
IsFaultOf text (Table place) = IsFaultAt text kinds.Table place
IsFaultOf text (Range place) = IsFaultAt text kinds.Range place
IsFaultOf text (TooLong place) = IsFaultAt text kinds.TooLong place
IsFaultOf text (TooMany place) = IsFaultAt text kinds.TooMany place
IsFaultOf text NoMemory = Unit {0}

-- the answer for a query text is its script, unless memory was short
abbrev pub IsScriptUnlessShort : Result Script SqlFault → List Stmt → Type 0
IsScriptUnlessShort (Ok script) stmts = script ≡ stmts
IsScriptUnlessShort (Err (Syntax place)) stmts = ⊥
IsScriptUnlessShort (Err (Table place)) stmts = ⊥
IsScriptUnlessShort (Err (Range place)) stmts = ⊥
IsScriptUnlessShort (Err (TooLong place)) stmts = ⊥
IsScriptUnlessShort (Err (TooMany place)) stmts = ⊥
IsScriptUnlessShort (Err NoMemory) stmts = Unit {0}
