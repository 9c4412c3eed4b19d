use Rattle.std.proofs.Common.{◌≡◌, ◌-◌, ◌^◌, take, min}
use Rattle.pm_sql.specs.Tokens.{digits_value}
use Rattle.pm_settings.proofs.lexer.magnitude.Given as goal

abbrev pub invariant-loop-digit : goal.invariant-loop-digit
invariant-loop-digit l = l.number ≡ min (digits_value (take l.digit-index l.digit-items)) (2 ^ 64 - 1)
