use Rattle.std.proofs.Common.{◌≡◌, take, string_bytes}
use Rattle.pm_settings.specs.Statements.{joined}
use Rattle.pm_settings.proofs.value.joined.Given as goal

abbrev pub invariant-loop-at : goal.invariant-loop-at
invariant-loop-at l = string_bytes l.text ≡ joined (take l.at l.values)
