use Rattle.std.proofs.Common.{◌≡◌, ◌-◌, length}
use Rattle.pm_settings.specs.Reading.{modes_within, modes_in}
use Rattle.pm_settings.proofs.modes.modes_in.Given as goal

abbrev pub invariant-loop : goal.invariant-loop
invariant-loop l = modes_within (length l.lexemes - l.counter) l.is_read_only l.rest ≡ modes_in l.lexemes
