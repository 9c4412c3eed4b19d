use Rattle.std.proofs.Common.{◌∙◌, ◌==◌, ap, length}
use Rattle.pm_xact.{specs.Reading.is_blank, proofs.Lexing.{all_of_front, end_is}}
use Rattle.pm_xact.proofs.tokens.is_end.Goals as goal

pub returns : goal.returns
returns c = ap (λ n. n == length c.args.input.now) c.blank_len.ensures ∙ all_of_front is_blank c.args.input.now ∙ end_is c.args.input.now
