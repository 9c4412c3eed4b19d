use Rattle.std.{proofs.Common.{◌≡◌, ◌++◌, ℕ, List, sym, ◌∙◌, ap, append_assoc}, specs.Prelude.{codes, decimal}}
use Rattle.pm_record.specs.{pm_disk.declared.disk.Which.Which, declared.fault.RedoFault.TheVariants.BadFile}
use Rattle.pm_server_lines.{specs.Print.{file_letter, redo_line}, proofs.PrintLaws.{cut_short, printed_as, printed_then, printed_whole}}
use Rattle.pm_server_lines.proofs.printing.print_damage.Goals as goal

-- the line's end
abbrev place : ℕ → List ℕ
place at = codes " at " ++ decimal at ++ codes "\n"

same_line : (file : Which) (at : ℕ) → codes "damaged file " ++ (file_letter file ++ place at) ≡ redo_line (BadFile file at)
same_line file at = ap (λ (l : List ℕ). codes "damaged file " ++ l)
    (sym (append_assoc (file_letter file ++ codes " at ") (decimal at) (codes "\n") ∙ append_assoc (file_letter file) (codes " at ") (decimal at ++ codes "\n")))

pub returns-in_err-print-clause-said : goal.returns-in_err-print-clause-said
returns-in_err-print-clause-said g c =
    printed_as _ _ _ _ _ (same_line c.args.file c.args.at)
    (cut_short (codes "damaged file ") (file_letter c.args.file ++ place c.args.at) _ _ _ _ c.from_residual.ensures.0 c.print.ensures.said)

pub returns-in_err-print-2-clause-said : goal.returns-in_err-print-2-clause-said
returns-in_err-print-2-clause-said g c =
    printed_as _ _ _ _ _ (same_line c.args.file c.args.at)
    (printed_then (codes "damaged file ") (file_letter c.args.file ++ place c.args.at) _ _ _ _ (printed_whole _ _ _ c.in_ok-print.ensures.said)
    (cut_short (file_letter c.args.file) (place c.args.at) _ _ _ _ c.from_residual-in_err-print-2.ensures.0
    (printed_as _ (file_letter c.args.file) _ _ _ c.file_letter.ensures c.print-2.ensures.said)))

pub returns-clause-said : goal.returns-clause-said
returns-clause-said g c =
    printed_as _ _ _ _ _ (same_line c.args.file c.args.at)
    (printed_then (codes "damaged file ") (file_letter c.args.file ++ place c.args.at) _ _ _ _ (printed_whole _ _ _ c.in_ok-print.ensures.said)
    (printed_then (file_letter c.args.file) (place c.args.at) _ _ _ _
    (printed_whole _ _ _ (printed_as _ (file_letter c.args.file) _ _ _ c.file_letter.ensures c.in_ok-print-2.ensures.said)) c.print_with.ensures.said))
