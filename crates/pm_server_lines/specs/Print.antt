-- What is written to a sink.
use Rattle.std.specs.Prelude.{◌≡◌, ◌⊎◌, ℕ, List, [], ◌++◌, codes, decimal, Option}
use Rattle.pm_outside.specs.Added.{Added}
use Rattle.pm_record.specs.{pm_disk.declared.disk.Which.{Which, TheVariants.{A, B}}, declared.fault.RedoFault.RedoFault}
use Rattle.pm_record.specs.declared.fault.RedoFault.TheVariants as redo

-- All of the text was written, or a front of it where that was cut off; and nothing else.
pub record IsPrinted (text : List ℕ) (cut : Type 0) (before now : Option (List ℕ)) : Type 0 where
  pub front : List ℕ
  pub rest : List ℕ
  pub parts : text ≡ front ++ rest
  pub written : Added front before now
  pub whole : (rest ≡ []) ⊎ cut

abbrev pub file_letter : Which → List ℕ
file_letter A = codes "A"
file_letter B = codes "B"

-- why the files can't be read
abbrev pub redo_line : RedoFault → List ℕ
redo_line redo.Disk = codes "disk fault\n"
redo_line redo.NoCluster = codes "no readable cluster\n"
redo_line (redo.BadFile which at) = codes "damaged file " ++ file_letter which ++ codes " at " ++ decimal at ++ codes "\n"
redo_line (redo.SameEpoch epoch) = codes "two files of epoch " ++ decimal epoch ++ codes "\n"
redo_line redo.NoMemory = codes "out of memory\n"
