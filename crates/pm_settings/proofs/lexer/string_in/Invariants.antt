use Rattle.std.proofs.Common.{◌≡◌, length, string_bytes}
use denote.Shadow.{shadow}
use denote.Text.{Utf8}
use Rattle.pm_sql.specs.Tokens.{string_in}
use Rattle.pm_settings.proofs.Strings.{with_content}
use Rattle.pm_settings.proofs.lexer.string_in.Given as goal

-- the content so far, and then that of the rest, is the whole; and the rest is text
abbrev pub invariant-loop-segment : goal.invariant-loop-segment
invariant-loop-segment l = (with_content (string_bytes l.content) (string_in l.rest) ≡ string_in l.fn.input) × shadow (Utf8 l.rest)

abbrev pub decreases-loop-segment : goal.decreases-loop-segment
decreases-loop-segment l = length l.rest
