-- What `controldata` tells of the files.
use Rattle.std.specs.{Prelude.{ℕ, Bool, true, false, List, [], ◌∷◌, ◌++◌, codes, decimal, IfSome}, List.concat, FinMap.len}
use Rattle.pm_server.specs.{pm_record.declared.found.Found.Found, Outside.OutsideView, pm_server_lines.Print.{IsPrinted, file_letter}}
use Rattle.pm_redo.specs.{Found.{FindsOnly, FindsPair}, Redo.IsOnly}

-- a line: a name and its value
abbrev pub told_line : List ℕ → List ℕ → List ℕ
told_line name value = name ++ value ++ codes "\n"

abbrev pub yes_or_no : Bool → List ℕ
yes_or_no true = codes "yes"
yes_or_no false = codes "no"

-- the six lines
abbrev pub control_lines : Found → List ℕ
control_lines found = concat (
    told_line (codes "file: ") (file_letter found.file)
    ∷ told_line (codes "epoch: ") (decimal found.epoch)
    ∷ told_line (codes "clean: ") (yes_or_no found.clean)
    ∷ told_line (codes "commits: ") (decimal found.count)
    ∷ told_line (codes "rows: ") (decimal (len found.rows))
    ∷ told_line (codes "batches: ") (decimal found.batches)
    ∷ [])

-- The lines of what was found are written, or a front of them where that was cut off. Where the
-- disk tells its files, they stand for what was found and nothing else, and a stop leaves these
-- files and no others.
pub record HasTold (cut : Type 0) (before now : OutsideView) : Type 0 where
  pub found : Found
  pub stands : IfSome before.disk.files (λ files. FindsPair found files (λ content.
      IsOnly files (now.disk.images now.disk.ticks)))
  pub only : IfSome before.disk.files (FindsOnly found)
  pub printed : IsPrinted (control_lines found) cut before.written now.written
