use Rattle.std.{proofs.Common.{sym, subst}, specs.{Char.is_ascii_digit, Str.IsCharBoundary}}
use Rattle.pm_settings.proofs.Texts.{prefix-boundary, digits-IsOfAscii}
use Rattle.pm_settings.proofs.lexer.split_digits.Goals as goal

pub split_at-requires : goal.split_at-requires
split_at-requires c = subst (IsCharBoundary c.args.here.now) (sym c.digits_len.ensures) (prefix-boundary is_ascii_digit c.args.here.now digits-IsOfAscii c.utf8.here)
