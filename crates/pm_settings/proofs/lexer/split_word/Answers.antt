use Rattle.std.{proofs.Common.{sym, subst}, specs.Str.IsCharBoundary}
use Rattle.pm_settings.proofs.Texts.{word-boundary}
use Rattle.pm_settings.proofs.lexer.split_word.Goals as goal

pub split_at-requires : goal.split_at-requires
split_at-requires c = subst (IsCharBoundary c.args.here.now) (sym c.word_len.ensures) (word-boundary c.args.here.now c.utf8.here)
