use Rattle.std.{proofs.Common.◌∙◌, specs.Prelude.decimal}
use Rattle.pm_server_lines.proofs.PrintLaws.{printed_as}
use Rattle.pm_server_lines.proofs.printing.print_number.Goals as goal

pub returns-clause-said : goal.returns-clause-said
returns-clause-said g c = printed_as _ (decimal c.args.number) _ _ _ (c.as_bytes.ensures.value ∙ c.format.ensures.text) c.print.ensures.said
