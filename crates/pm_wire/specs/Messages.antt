-- What the server's messages say (Message Formats).
use Rattle.std.specs.Prelude.{ℕ, ℤ, List, Option}
use Rattle.pm_wire.specs.declared.back.{Severity.Severity, Shape.Shape, Tag.Tag}

-- what an error or a notice says
pub record Saying : Type 0 where
  pub severity : Severity
  pub code : List ℕ
  pub text : List ℕ
  pub detail : Option (List ℕ)

-- what a message says, without where its texts lie in memory
pub data BackMessage : Type 0 where
  Auth : BackMessage
  Param : (name value : List ℕ) → BackMessage
  Key : (pid key : ℕ) → BackMessage
  Ready : BackMessage
  Fields : Shape → BackMessage
  Pair : (key : ℤ) (value : List ℕ) → BackMessage
  One : (text : List ℕ) → BackMessage
  Complete : Tag → BackMessage
  Empty : BackMessage
  Fault : Saying → BackMessage
  Notice : Saying → BackMessage
