use Rattle.std.{proofs.Common.{◌≡◌, ℕ, ◌++◌, List, [], ap, append_assoc, sym}, specs.Prelude.{Option, codes, decimal}}
use Rattle.pm_state.specs.{pm_exit.declared.child.{Kind.Kind, Status.Status}, Text.{kind_text, status_text}, declared.action.Line.TheVariants.ChildExit}
use Rattle.pm_server_lines.{specs.{Log.log_line, Print.IsPrinted}, proofs.PrintLaws.{nothing_yet, part_cut, part_last, part_more, printed_as}}
use Rattle.pm_server_lines.proofs.say.say_exit.Goals as goal

abbrev feed : List ℕ
feed = codes "\n"

abbrev behind_kind : Status → List ℕ
behind_kind status = status_text status ++ (feed ++ [])

abbrev behind_pid : Kind → Status → List ℕ
behind_pid kind status = codes " (" ++ (kind_text kind ++ behind_kind status)

-- the line, part by part
abbrev line_text : ℕ → Kind → Status → List ℕ
line_text pid kind status = codes "LOG:  child " ++ (decimal pid ++ behind_pid kind status)

regroup : (p k s : List ℕ) → (codes "LOG:  " ++ (codes "child " ++ (p ++ (codes " (" ++ (k ++ s))))) ++ feed ≡ codes "LOG:  child " ++ (p ++ (codes " (" ++ (k ++ (s ++ (feed ++ [])))))
regroup p k s = simp append_assoc

same_text : (pid : ℕ) (kind : Kind) (status : Status) → line_text pid kind status ≡ log_line (ChildExit pid kind status)
same_text pid kind status = sym (regroup (decimal pid) (kind_text kind) (status_text status))

as_line : (pid : ℕ) (kind : Kind) (status : Status) (cut : Type 0) (before now : Option (List ℕ)) → IsPrinted (line_text pid kind status) cut before now → IsPrinted (log_line (ChildExit pid kind status)) cut before now
as_line pid kind status cut before now printed = printed_as (line_text pid kind status) (log_line (ChildExit pid kind status)) cut before now (same_text pid kind status) printed

pub returns-in_err-print-clause-said : goal.returns-in_err-print-clause-said
returns-in_err-print-clause-said g c =
    let text = line_text c.args.pid c.args.kind c.args.status in
    as_line c.args.pid c.args.kind c.args.status _ _ _
    (part_cut text (codes "LOG:  child ") (decimal c.args.pid ++ behind_pid c.args.kind c.args.status) _ _ _ _ _ c.from_residual.ensures.0 (nothing_yet text _) c.print.ensures.said)

pub returns-in_err-print_number-clause-said : goal.returns-in_err-print_number-clause-said
returns-in_err-print_number-clause-said g c =
    let text = line_text c.args.pid c.args.kind c.args.status in
    let one = part_more text (codes "LOG:  child ") (decimal c.args.pid ++ behind_pid c.args.kind c.args.status) _ _ _ (nothing_yet text _) c.in_ok-print.ensures.said in
    as_line c.args.pid c.args.kind c.args.status _ _ _
    (part_cut text (decimal c.args.pid) (behind_pid c.args.kind c.args.status) _ _ _ _ _ c.from_residual-in_err-print_number.ensures.0 one (printed_as _ (decimal c.args.pid) _ _ _ (ap (λ (n : ℕ). decimal n) c.from.ensures) c.print_number.ensures.said))

pub returns-in_err-print-2-clause-said : goal.returns-in_err-print-2-clause-said
returns-in_err-print-2-clause-said g c =
    let text = line_text c.args.pid c.args.kind c.args.status in
    let one = part_more text (codes "LOG:  child ") (decimal c.args.pid ++ behind_pid c.args.kind c.args.status) _ _ _ (nothing_yet text _) c.in_ok-print.ensures.said in
    let two = part_more text (decimal c.args.pid) (behind_pid c.args.kind c.args.status) _ _ _ one (printed_as _ (decimal c.args.pid) _ _ _ (ap (λ (n : ℕ). decimal n) c.from.ensures) c.in_ok-print_number.ensures.said) in
    as_line c.args.pid c.args.kind c.args.status _ _ _
    (part_cut text (codes " (") (kind_text c.args.kind ++ behind_kind c.args.status) _ _ _ _ _ c.from_residual-in_err-print-2.ensures.0 two c.print-2.ensures.said)

pub returns-in_err-print-3-clause-said : goal.returns-in_err-print-3-clause-said
returns-in_err-print-3-clause-said g c =
    let text = line_text c.args.pid c.args.kind c.args.status in
    let one = part_more text (codes "LOG:  child ") (decimal c.args.pid ++ behind_pid c.args.kind c.args.status) _ _ _ (nothing_yet text _) c.in_ok-print.ensures.said in
    let two = part_more text (decimal c.args.pid) (behind_pid c.args.kind c.args.status) _ _ _ one (printed_as _ (decimal c.args.pid) _ _ _ (ap (λ (n : ℕ). decimal n) c.from.ensures) c.in_ok-print_number.ensures.said) in
    let three = part_more text (codes " (") (kind_text c.args.kind ++ behind_kind c.args.status) _ _ _ two c.in_ok-print-2.ensures.said in
    as_line c.args.pid c.args.kind c.args.status _ _ _
    (part_cut text (kind_text c.args.kind) (behind_kind c.args.status) _ _ _ _ _ c.from_residual-in_err-print-3.ensures.0 three
    (printed_as _ (kind_text c.args.kind) _ _ _ c.kind_word.ensures c.print-3.ensures.said))

pub returns-in_err-say_status-clause-said : goal.returns-in_err-say_status-clause-said
returns-in_err-say_status-clause-said g c =
    let text = line_text c.args.pid c.args.kind c.args.status in
    let one = part_more text (codes "LOG:  child ") (decimal c.args.pid ++ behind_pid c.args.kind c.args.status) _ _ _ (nothing_yet text _) c.in_ok-print.ensures.said in
    let two = part_more text (decimal c.args.pid) (behind_pid c.args.kind c.args.status) _ _ _ one (printed_as _ (decimal c.args.pid) _ _ _ (ap (λ (n : ℕ). decimal n) c.from.ensures) c.in_ok-print_number.ensures.said) in
    let three = part_more text (codes " (") (kind_text c.args.kind ++ behind_kind c.args.status) _ _ _ two c.in_ok-print-2.ensures.said in
    let four = part_more text (kind_text c.args.kind) (behind_kind c.args.status) _ _ _ three (printed_as _ (kind_text c.args.kind) _ _ _ c.kind_word.ensures c.in_ok-print-3.ensures.said) in
    as_line c.args.pid c.args.kind c.args.status _ _ _
    (part_cut text (status_text c.args.status) (feed ++ []) _ _ _ _ _ c.from_residual-in_err-say_status.ensures.0 four c.say_status.ensures.said)

pub returns-clause-said : goal.returns-clause-said
returns-clause-said g c =
    let text = line_text c.args.pid c.args.kind c.args.status in
    let one = part_more text (codes "LOG:  child ") (decimal c.args.pid ++ behind_pid c.args.kind c.args.status) _ _ _ (nothing_yet text _) c.in_ok-print.ensures.said in
    let two = part_more text (decimal c.args.pid) (behind_pid c.args.kind c.args.status) _ _ _ one (printed_as _ (decimal c.args.pid) _ _ _ (ap (λ (n : ℕ). decimal n) c.from.ensures) c.in_ok-print_number.ensures.said) in
    let three = part_more text (codes " (") (kind_text c.args.kind ++ behind_kind c.args.status) _ _ _ two c.in_ok-print-2.ensures.said in
    let four = part_more text (kind_text c.args.kind) (behind_kind c.args.status) _ _ _ three (printed_as _ (kind_text c.args.kind) _ _ _ c.kind_word.ensures c.in_ok-print-3.ensures.said) in
    let five = part_more text (status_text c.args.status) (feed ++ []) _ _ _ four c.in_ok-say_status.ensures.said in
    as_line c.args.pid c.args.kind c.args.status _ _ _ (part_last text feed _ _ _ _ five c.print-4.ensures.said)
