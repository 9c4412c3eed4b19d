use Rattle.std.{proofs.Common.{◌++◌, ℕ, List, [], ap}, specs.{Prelude.{codes, decimal}, FinMap.len}}
use Rattle.pm_server_lines.{specs.{pm_record.declared.found.Found.Found, Print.file_letter}, proofs.PrintLaws.{nothing_yet, part_cut, part_last, part_more, printed_as}}
use Rattle.pm_top.specs.Control.{control_lines, told_line, yes_or_no}
use Rattle.pm_top.proofs.print.print_found.Goals as goal

-- each line, and those after it
abbrev file_part : Found → List ℕ
file_part found = told_line (codes "file: ") (file_letter found.file)

abbrev epoch_part : Found → List ℕ
epoch_part found = told_line (codes "epoch: ") (decimal found.epoch)

abbrev clean_part : Found → List ℕ
clean_part found = told_line (codes "clean: ") (yes_or_no found.clean)

abbrev commits_part : Found → List ℕ
commits_part found = told_line (codes "commits: ") (decimal found.count)

abbrev rows_part : Found → List ℕ
rows_part found = told_line (codes "rows: ") (decimal (len found.rows))

abbrev batches_part : Found → List ℕ
batches_part found = told_line (codes "batches: ") (decimal found.batches)

abbrev behind_rows : Found → List ℕ
behind_rows found = batches_part found ++ []

abbrev behind_commits : Found → List ℕ
behind_commits found = rows_part found ++ behind_rows found

abbrev behind_clean : Found → List ℕ
behind_clean found = commits_part found ++ behind_commits found

abbrev behind_epoch : Found → List ℕ
behind_epoch found = clean_part found ++ behind_clean found

abbrev behind_file : Found → List ℕ
behind_file found = epoch_part found ++ behind_epoch found

pub returns-in_err-print-clause-said : goal.returns-in_err-print-clause-said
returns-in_err-print-clause-said g c =
    let found = c.args.found.now in
    let text = control_lines found in
    part_cut text (file_part found) (behind_file found) _ _ _ _ _ c.from_residual.ensures.0 (nothing_yet text _)
    (printed_as _ (file_part found) _ _ _ c.file_line.ensures c.print.ensures.said)

pub returns-in_err-print_with-clause-said : goal.returns-in_err-print_with-clause-said
returns-in_err-print_with-clause-said g c =
    let found = c.args.found.now in
    let text = control_lines found in
    let file = part_more text (file_part found) (behind_file found) _ _ _ (nothing_yet text _) (printed_as _ (file_part found) _ _ _ c.file_line.ensures c.in_ok-print.ensures.said) in
    part_cut text (epoch_part found) (behind_epoch found) _ _ _ _ _ c.from_residual-in_err-print_with.ensures.0 file c.print_with.ensures.said

pub returns-in_err-print-2-clause-said : goal.returns-in_err-print-2-clause-said
returns-in_err-print-2-clause-said g c =
    let found = c.args.found.now in
    let text = control_lines found in
    let file = part_more text (file_part found) (behind_file found) _ _ _ (nothing_yet text _) (printed_as _ (file_part found) _ _ _ c.file_line.ensures c.in_ok-print.ensures.said) in
    let epoch = part_more text (epoch_part found) (behind_epoch found) _ _ _ file c.in_ok-print_with.ensures.said in
    part_cut text (clean_part found) (behind_clean found) _ _ _ _ _ c.from_residual-in_err-print-2.ensures.0 epoch
    (printed_as _ (clean_part found) _ _ _ c.clean_line.ensures c.print-2.ensures.said)

pub returns-in_err-print_with-2-clause-said : goal.returns-in_err-print_with-2-clause-said
returns-in_err-print_with-2-clause-said g c =
    let found = c.args.found.now in
    let text = control_lines found in
    let file = part_more text (file_part found) (behind_file found) _ _ _ (nothing_yet text _) (printed_as _ (file_part found) _ _ _ c.file_line.ensures c.in_ok-print.ensures.said) in
    let epoch = part_more text (epoch_part found) (behind_epoch found) _ _ _ file c.in_ok-print_with.ensures.said in
    let clean = part_more text (clean_part found) (behind_clean found) _ _ _ epoch (printed_as _ (clean_part found) _ _ _ c.clean_line.ensures c.in_ok-print-2.ensures.said) in
    part_cut text (commits_part found) (behind_commits found) _ _ _ _ _ c.from_residual-in_err-print_with-2.ensures.0 clean c.print_with-2.ensures.said

pub returns-in_err-print_with-3-clause-said : goal.returns-in_err-print_with-3-clause-said
returns-in_err-print_with-3-clause-said g c =
    let found = c.args.found.now in
    let text = control_lines found in
    let file = part_more text (file_part found) (behind_file found) _ _ _ (nothing_yet text _) (printed_as _ (file_part found) _ _ _ c.file_line.ensures c.in_ok-print.ensures.said) in
    let epoch = part_more text (epoch_part found) (behind_epoch found) _ _ _ file c.in_ok-print_with.ensures.said in
    let clean = part_more text (clean_part found) (behind_clean found) _ _ _ epoch (printed_as _ (clean_part found) _ _ _ c.clean_line.ensures c.in_ok-print-2.ensures.said) in
    let commits = part_more text (commits_part found) (behind_commits found) _ _ _ clean c.in_ok-print_with-2.ensures.said in
    part_cut text (rows_part found) (behind_rows found) _ _ _ _ _ c.from_residual-in_err-print_with-3.ensures.0 commits
    (printed_as _ (rows_part found) _ _ _ (ap (λ (n : ℕ). told_line (codes "rows: ") (decimal n)) c.len.ensures) c.print_with-3.ensures.said)

pub returns-clause-said : goal.returns-clause-said
returns-clause-said g c =
    let found = c.args.found.now in
    let text = control_lines found in
    let file = part_more text (file_part found) (behind_file found) _ _ _ (nothing_yet text _) (printed_as _ (file_part found) _ _ _ c.file_line.ensures c.in_ok-print.ensures.said) in
    let epoch = part_more text (epoch_part found) (behind_epoch found) _ _ _ file c.in_ok-print_with.ensures.said in
    let clean = part_more text (clean_part found) (behind_clean found) _ _ _ epoch (printed_as _ (clean_part found) _ _ _ c.clean_line.ensures c.in_ok-print-2.ensures.said) in
    let commits = part_more text (commits_part found) (behind_commits found) _ _ _ clean c.in_ok-print_with-2.ensures.said in
    let rows = part_more text (rows_part found) (behind_rows found) _ _ _ commits (printed_as _ (rows_part found) _ _ _ (ap (λ (n : ℕ). told_line (codes "rows: ") (decimal n)) c.len.ensures) c.in_ok-print_with-3.ensures.said) in
    part_last text (batches_part found) _ _ _ _ rows c.print_with-4.ensures.said
