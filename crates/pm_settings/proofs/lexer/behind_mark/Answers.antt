use Rattle.std.proofs.lemmas.Str.Pattern.{strip_prefix_char}
use Rattle.pm_settings.proofs.Texts.{mark_found}
use Rattle.pm_settings.proofs.lexer.behind_mark.Goals as goal

pub returns : goal.returns
returns c = mark_found c.args.mark c.args.here.now c.strip_prefix.result (strip_prefix_char c.args.mark c.args.here.now c.strip_prefix.result c.strip_prefix.ensures.cases c.requires)
