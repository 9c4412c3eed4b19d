-- Which texts begin or end a transaction block, over the tokens of query texts.
use Rattle.std.specs.Prelude.{◌≡◌, ◌⊎◌, ℕ, List, [], ◌∷◌, ◌++◌, map, fold, Option, Some, None, unwrap_or, Result, Ok, Err}
use Rattle.pm_sql.specs.{declared.query.SqlFault.{SqlFault, TheVariants.NoMemory}, Statements.{AreSemicolons, IsQueryText, word, mark}, Token.{Token, Spells, in_lower_case}}
use Rattle.pm_xact.specs.declared.{access.Access.{Access, TheVariants.{ReadWrite, ReadOnly}}, asked.Asked.{Asked, TheVariants.{Script, Begin, Commit, Rollback}}}

-- ---- transaction modes

-- SERIALIZABLE | REPEATABLE READ | READ COMMITTED | READ UNCOMMITTED
abbrev pub IsLevel : List Token → Type 0
IsLevel tokens =
    (tokens ≡ word "serializable" ∷ []) ⊎ ((tokens ≡ word "repeatable" ∷ word "read" ∷ [])
    ⊎ ((tokens ≡ word "read" ∷ word "committed" ∷ []) ⊎ (tokens ≡ word "read" ∷ word "uncommitted" ∷ [])))

-- ISOLATION LEVEL level | [ NOT ] DEFERRABLE
abbrev pub IsOtherMode : List Token → Type 0
IsOtherMode tokens =
    ((level : List Token) × IsLevel level × (tokens ≡ word "isolation" ∷ word "level" ∷ level))
    ⊎ ((tokens ≡ word "deferrable" ∷ []) ⊎ (tokens ≡ word "not" ∷ word "deferrable" ∷ []))

-- a mode, and the access that it names, if any: READ WRITE | READ ONLY | a mode that names none
abbrev pub IsMode : List Token → Option Access → Type 0
IsMode tokens (Some ReadWrite) = tokens ≡ word "read" ∷ word "write" ∷ []
IsMode tokens (Some ReadOnly) = tokens ≡ word "read" ∷ word "only" ∷ []
IsMode tokens None = IsOtherMode tokens

-- [ "," ]
abbrev pub MayBeComma : List Token → Type 0
MayBeComma tokens = (tokens ≡ []) ⊎ (tokens ≡ mark "," ∷ [])

-- { [ "," ] mode }
abbrev pub AreMoreModes : List Token → List (Option Access) → Type 0
AreMoreModes tokens [] = tokens ≡ []
AreMoreModes tokens (named ∷ others) = (comma first more : List Token) × MayBeComma comma × IsMode first named × AreMoreModes more others × (tokens ≡ comma ++ first ++ more)

-- modes := [ mode { [ "," ] mode } ]
abbrev pub AreModes : List Token → List (Option Access) → Type 0
AreModes tokens [] = tokens ≡ []
AreModes tokens (named ∷ others) = (first more : List Token) × IsMode first named × AreMoreModes more others × (tokens ≡ first ++ more)

-- the access that modes name last; before any is named it is READ WRITE
abbrev pub access_of : List (Option Access) → Access
access_of named = fold (λ access one. unwrap_or one access) ReadWrite named

-- ---- statements

-- [ WORK | TRANSACTION ]
abbrev pub IsNoise : List Token → Type 0
IsNoise tokens = (tokens ≡ []) ⊎ ((tokens ≡ word "work" ∷ []) ⊎ (tokens ≡ word "transaction" ∷ []))

-- START TRANSACTION | BEGIN [ WORK | TRANSACTION ]
abbrev pub IsOpening : List Token → Type 0
IsOpening tokens = (tokens ≡ word "start" ∷ word "transaction" ∷ []) ⊎ ((noise : List Token) × IsNoise noise × (tokens ≡ word "begin" ∷ noise))

-- an opening, and modes
abbrev pub IsBegin : List Token → Access → Type 0
IsBegin tokens access = (opening modes : List Token) × (named : List (Option Access)) × IsOpening opening × AreModes modes named × (access ≡ access_of named) × (tokens ≡ opening ++ modes)

-- ( COMMIT | END ) [ WORK | TRANSACTION ]
abbrev pub IsCommit : List Token → Type 0
IsCommit tokens = (noise : List Token) × IsNoise noise × ((tokens ≡ word "commit" ∷ noise) ⊎ (tokens ≡ word "end" ∷ noise))

-- ( ROLLBACK | ABORT ) [ WORK | TRANSACTION ]
abbrev pub IsRollback : List Token → Type 0
IsRollback tokens = (noise : List Token) × IsNoise noise × ((tokens ≡ word "rollback" ∷ noise) ⊎ (tokens ≡ word "abort" ∷ noise))

-- a statement that begins or ends a block; no script is one
abbrev pub IsControl : List Token → Asked → Type 0
IsControl tokens (Script script) = ⊥
IsControl tokens (Begin access) = IsBegin tokens access
IsControl tokens Commit = IsCommit tokens
IsControl tokens Rollback = IsRollback tokens

-- ---- texts

-- { ";" } control { ";" }
abbrev pub AreControl : List Token → Asked → Type 0
AreControl tokens asked = (before control closing : List Token) × AreSemicolons before × IsControl control asked × AreSemicolons closing × (tokens ≡ before ++ control ++ closing)

-- a text spells such a statement, words in any case
abbrev pub IsControlText : List ℕ → Asked → Type 0
IsControlText text asked = (tokens : List Token) × Spells text tokens × AreControl (map in_lower_case tokens) asked

-- what a text asks for: that its script is run, or that a block begins or ends
abbrev pub Asks : List ℕ → Asked → Type 0
Asks text (Script script) = IsQueryText text script
Asks text control = IsControlText text control

-- the answer for a text that asks for this: memory may be short for a script alone
abbrev pub IsTold : Asked → Result Asked SqlFault → Type 0
IsTold (Script script) result = (result ≡ Ok (Script script)) ⊎ (result ≡ Err NoMemory)
IsTold control result = result ≡ Ok control
