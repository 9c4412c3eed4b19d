use Rattle.std.{proofs.Common.◌++◌, specs.Prelude.{codes, decimal}}
use Rattle.pm_server_lines.proofs.PrintLaws.{cut_short, printed_then, printed_whole}
use Rattle.pm_server_lines.proofs.printing.print_with.Goals as goal

pub returns-in_err-print-clause-said : goal.returns-in_err-print-clause-said
returns-in_err-print-clause-said g c =
    let failed = c.from_residual.ensures.0 in
    cut_short (c.args.front.now ++ decimal c.args.number) (codes "\n") _ _ _ _ failed (cut_short c.args.front.now (decimal c.args.number) _ _ _ _ failed c.print.ensures.said)

pub returns-in_err-print_number-clause-said : goal.returns-in_err-print_number-clause-said
returns-in_err-print_number-clause-said g c =
    let failed = c.from_residual-in_err-print_number.ensures.0 in
    cut_short (c.args.front.now ++ decimal c.args.number) (codes "\n") _ _ _ _ failed
    (printed_then c.args.front.now (decimal c.args.number) _ _ _ _ (printed_whole _ _ _ c.in_ok-print.ensures.said) c.print_number.ensures.said)

pub returns-clause-said : goal.returns-clause-said
returns-clause-said g c =
    let two = printed_then c.args.front.now (decimal c.args.number) _ _ _ _ (printed_whole _ _ _ c.in_ok-print.ensures.said) c.in_ok-print_number.ensures.said in
    printed_then (c.args.front.now ++ decimal c.args.number) (codes "\n") _ _ _ _ (printed_whole _ _ _ two) c.print-2.ensures.said
