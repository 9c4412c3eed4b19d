-- Which bytes no message of a client begins with, and why.
use Rattle.std.specs.Prelude.{ℕ, List}
use Rattle.pm_wire.specs.{declared.take.WireFault.{WireFault, TheVariants.{BadLength, BadForm}}, Frontend.BeginsBadly}

abbrev pub FrontFails : List ℕ → WireFault → Type 0
FrontFails bytes (BadLength seen) = BeginsBadly bytes seen
FrontFails bytes (BadForm at) = ⊥

-- the byte of a message at which the fault stands: the first of its length, or the one that is told
abbrev pub place_of : WireFault → ℕ
place_of (BadLength seen) = 1
place_of (BadForm at) = at
