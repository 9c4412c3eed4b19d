use Rattle.std.{proofs.Common.{ℕ, ap, sym}, specs.Prelude.{codes, decimal}}
use Rattle.pm_state.specs.{pm_exit.declared.child.Status.Status, Text.status_text}
use Rattle.pm_server_lines.proofs.PrintLaws.{cut_short, printed_as, printed_then, printed_whole}
use Rattle.pm_server_lines.proofs.say.say_status.Goals as goal

pub returns-in_err-print-in-Code-clause-said : goal.returns-in_err-print-in-Code-clause-said
returns-in_err-print-in-Code-clause-said g c =
    printed_as _ (status_text c.args.status) _ _ _ (ap (λ (s : Status). status_text s) (sym c.in-Code.is))
    (cut_short (codes ") exited with exit code ") (decimal c.in-Code.code) _ _ _ _ c.from_residual.ensures.0 c.print.ensures.said)

pub returns-in_err-print-in-Signal-clause-said : goal.returns-in_err-print-in-Signal-clause-said
returns-in_err-print-in-Signal-clause-said g c =
    printed_as _ (status_text c.args.status) _ _ _ (ap (λ (s : Status). status_text s) (sym c.in-Signal.is))
    (cut_short (codes ") was terminated by signal ") (decimal c.in-Signal.number) _ _ _ _ c.from_residual-in_err-print-in-Signal.ensures.0 c.print-in-Signal.ensures.said)

pub returns-in_ok-print-in-Code-clause-said : goal.returns-in_ok-print-in-Code-clause-said
returns-in_ok-print-in-Code-clause-said g c =
    printed_as _ (status_text c.args.status) _ _ _ (ap (λ (s : Status). status_text s) (sym c.in-Code.is))
    (printed_then (codes ") exited with exit code ") (decimal c.in-Code.code) _ _ _ _ (printed_whole _ _ _ c.in_ok-print-in-Code.ensures.said)
    (printed_as _ (decimal c.in-Code.code) _ _ _ (ap (λ (n : ℕ). decimal n) c.from.ensures) c.print_number.ensures.said))

pub returns-in_ok-print-in-Signal-clause-said : goal.returns-in_ok-print-in-Signal-clause-said
returns-in_ok-print-in-Signal-clause-said g c =
    printed_as _ (status_text c.args.status) _ _ _ (ap (λ (s : Status). status_text s) (sym c.in-Signal.is))
    (printed_then (codes ") was terminated by signal ") (decimal c.in-Signal.number) _ _ _ _ (printed_whole _ _ _ c.in_ok-print-in-Signal.ensures.said)
    (printed_as _ (decimal c.in-Signal.number) _ _ _ (ap (λ (n : ℕ). decimal n) c.from-in-Signal.ensures) c.print_number-in-Signal.ensures.said))
