use Rattle.std.{proofs.Common.{sym, ap, ◌∙◌, drop, arith}, specs.Char.is_ascii_whitespace}
use Rattle.pm_settings.proofs.Texts.{prefix_len-stops}
use Rattle.pm_settings.proofs.lexer.skipped.Goals as goal

pub returns : goal.returns
returns c =
    let cut = c.trim_ascii_start.ensures.value in
    cut.1 ∙ ap (λ n. drop n c.args.input.now) (sym (prefix_len-stops is_ascii_whitespace c.args.input.now cut.0 (omega (arith, cut.2)) cut.3 cut.4))
