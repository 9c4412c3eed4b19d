-- What reading finds in the pair of files, and why it finds nothing.
use Rattle.std.specs.Prelude.{◌≡◌, ◌⊎◌, ℕ, ◌+◌, Bool, true, false, []}
use Rattle.pm_record.specs.{pm_disk.{declared.disk.Which.{Which, TheVariants.{A, B}}, Files.{Files, file_of, other}}, pm_rows.Standing.Standing, StandsFor.{Content, StandsFor}, Damage.IsFirstWrong, Found.{IsClosed, IsFound, MeansNothing}, Pair.{IsShut, MeansIn, PairStandsFor}, declared.{found.Found.Found, fault.RedoFault.RedoFault}}
use Rattle.pm_record.specs.declared.fault.RedoFault.TheVariants as redo

-- the rows and the count that were found
abbrev pub standing_in : Found → Standing
standing_in found = record { rows = found.rows; count = found.count }

-- the pair, where the file that doesn't count is open or shut
pub record Finds (found : Found) (both : Bool) (files : Files) : Type 0 where
  pub content : Content
  pub is : IsFound found content
  pub pair : PairStandsFor files found.file content found.end
  pub shut : both ≡ false → IsShut (file_of files (other found.file))
  pub stays : both ≡ true → IsShut (file_of files (other found.file)) → ⊥

-- the pair stands for a content that was found, of which this holds besides
pub record FindsPair (found : Found) (files : Files) (Besides : Content → Type 0) : Type 0 where
  pub content : Content
  pub is : IsFound found content
  pub pair : PairStandsFor files found.file content found.end
  pub besides : Besides content

-- Whatever the pair stands for, that was found: its file, its place, epoch, counts and rows.
abbrev pub FindsOnly : Found → Files → Type 0
FindsOnly found files = (file : Which) (content : Content) (end : ℕ) → PairStandsFor files file content end
    → (found.file ≡ file) × (found.end ≡ end) × IsFound found content

-- the files mean what was found, in so many bytes, and nothing else
abbrev pub MeansOnly : Found → Files → Type 0
MeansOnly found files = (standing : Standing) (bytes : ℕ) → MeansIn files standing bytes → (standing ≡ standing_in found) × (bytes ≡ found.end + 1)

-- ---- why nothing is found

-- this file is open, stands for nothing and has its first wrong byte there, or it is empty beside an open one
abbrev pub IsDamaged : Which → Files → ℕ → Type 0
IsDamaged file files at =
    (MeansNothing (file_of files file) × IsFirstWrong (file_of files file) at)
    ⊎ ((at ≡ 0) × (file_of files file ≡ []) × (IsClosed (file_of files (other file)) → ⊥))

-- ... and it is the first of the two that is damaged
abbrev pub IsFirstDamaged : Which → Files → ℕ → Type 0
IsFirstDamaged A files at = IsDamaged A files at
IsFirstDamaged B files at = IsDamaged B files at × ((place : ℕ) → IsDamaged A files place → ⊥)

-- the two files are open, and both of this epoch
pub record HaveEpoch (files : Files) (epoch : ℕ) : Type 0 where
  pub one : Content
  pub two : Content
  pub end : ℕ
  pub till : ℕ
  pub in_a : StandsFor files.a one end
  pub in_b : StandsFor files.b two till
  pub one_is : one.epoch ≡ epoch
  pub two_is : two.epoch ≡ epoch

-- a fault of the disk, and want of memory, say nothing of the files
abbrev pub IsReason : RedoFault → Files → Type 0
IsReason redo.Disk files = Unit {0}
IsReason redo.NoCluster files = IsClosed files.a × IsClosed files.b
IsReason (redo.BadFile file at) files = IsFirstDamaged file files at
IsReason (redo.SameEpoch epoch) files = HaveEpoch files epoch
IsReason redo.NoMemory files = Unit {0}
