use Rattle.std.proofs.Common.{◌≡◌, length}
use denote.Shadow.{shadow}
use denote.Text.{Utf8}
use Rattle.pm_sql.specs.Tokens.{string_in, string_end}
use Rattle.pm_sql.proofs.tokens.string_end.Given as goal

-- the string ends where that of the rest does; and the rest is text
abbrev pub invariant-loop-after : goal.invariant-loop-after
invariant-loop-after l = (string_end (string_in l.rest) ≡ string_end (string_in l.fn.input)) × shadow (Utf8 l.rest)

abbrev pub decreases-loop-after : goal.decreases-loop-after
decreases-loop-after l = length l.rest
