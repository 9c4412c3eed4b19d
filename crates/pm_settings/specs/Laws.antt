-- Laws of session statements.
use Rattle.std.specs.Prelude.{◌≡◌, ◌≢◌, ℕ, List, Some}
use Rattle.pm_sql.specs.{declared.stmt.Stmt.Stmt, Statements.IsQueryText}
use Rattle.pm_settings.specs.{declared.{statement.Statement.Statement, setting.Setting.Setting}, Statements.IsSessionText, Told.{Told, IsTold, place_of, value_of, with_told}}

-- a text stands for one list of session statements at most
abbrev pub OneReading : Type 0
OneReading = (text : List ℕ) (statements others : List Statement) → IsSessionText text statements → IsSessionText text others → statements ≡ others

-- a text that stands for session statements spells no script
abbrev pub NoScript : Type 0
NoScript = (text : List ℕ) (statements : List Statement) (stmts : List Stmt) → IsSessionText text statements → IsQueryText text stmts → ⊥

-- what is told of a setting that is kept is its value, and each other setting keeps its own
abbrev pub EachByItself : Type 0
EachByItself = (told : Told) (setting : Setting) (place : ℕ) (value : List ℕ) → IsTold told → place_of setting ≡ Some place
    → (value_of (with_told told setting (Some value)) setting ≡ value)
    × ((other : Setting) → place_of other ≢ Some place → value_of (with_told told setting (Some value)) other ≡ value_of told other)
