-- Laws of query texts.
use Rattle.std.specs.Prelude.{◌≡◌, ℕ, List}
use Rattle.pm_sql.specs.{declared.{stmt.Stmt.Stmt, fault.Kind.Kind}, Statements.IsQueryText, Faults.IsFaultAt}

-- a text stands for one script at most
abbrev pub OneScript : Type 0
OneScript = (text : List ℕ) (stmts others : List Stmt) → IsQueryText text stmts → IsQueryText text others → stmts ≡ others

-- a text has one fault at most
abbrev pub OneFault : Type 0
OneFault = (text : List ℕ) (kind another : Kind) (place other : ℕ) → IsFaultAt text kind place → IsFaultAt text another other → (kind ≡ another) × (place ≡ other)

-- a query text has none
abbrev pub NoFault : Type 0
NoFault = (text : List ℕ) (stmts : List Stmt) (kind : Kind) (place : ℕ) → IsQueryText text stmts → IsFaultAt text kind place → ⊥
