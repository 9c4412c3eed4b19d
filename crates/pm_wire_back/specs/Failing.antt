-- Which bytes no message of the server begins with, and why.
use Rattle.std.specs.Prelude.{ℕ, List}
use Rattle.pm_wire.specs.declared.take.WireFault.{WireFault, TheVariants.{BadLength, BadForm}}
use Rattle.pm_wire_back.specs.Received.{HasNoSuchLength, DepartsHere}

abbrev pub BackFails : List ℕ → WireFault → Type 0
BackFails bytes (BadLength seen) = HasNoSuchLength bytes seen
BackFails bytes (BadForm at) = DepartsHere bytes at
