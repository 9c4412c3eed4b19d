-- Why a text isn't read.
use Rattle.std.specs.Prelude.{ℕ, List}
use Rattle.pm_settings.specs.{declared.{statement.Statement.Statement, reading.ReadNo.{ReadNo, TheVariants.{Other, NoMemory}}}, Statements.IsSessionText}

-- a text that is refused stands for no session statements; of memory nothing is said
abbrev pub IsNoSessionText : List ℕ → ReadNo → Type 0
IsNoSessionText text Other = (statements : List Statement) → ¬ (IsSessionText text statements)
IsNoSessionText text NoMemory = Unit {0}
