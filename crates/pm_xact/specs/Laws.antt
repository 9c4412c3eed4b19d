-- Laws of what texts ask for.
use Rattle.std.specs.Prelude.{◌≡◌, ℕ, List, []}
use Rattle.pm_sql.specs.{Statements.AreSemicolons, Token.{Token, Spells}}
use Rattle.pm_xact.specs.{declared.asked.Asked.{Asked, TheVariants.Script}, Control.Asks}

-- no text asks for two things
abbrev pub AsksOneThing : Type 0
AsksOneThing = (text : List ℕ) (asked other : Asked) → Asks text asked → Asks text other → asked ≡ other

-- a text that spells no token, or semicolons alone, asks for the script of no statement, and so for nothing of a block
abbrev pub BlankRunsNothing : Type 0
BlankRunsNothing = (text : List ℕ) (tokens : List Token) → Spells text tokens → AreSemicolons tokens → Asks text (Script [])
