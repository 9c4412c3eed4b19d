-- What reading finds in one file.
use Rattle.std.specs.Prelude.{◌≡◌, ℕ, ◌+◌, false, nat_eq, List, [], ◌∷◌, length, if◌then◌else◌}
use Rattle.pm_disk.specs.declared.disk.Which.{Which}
use Rattle.pm_record.specs.{Spelling.base_bytes, StandsFor.{Content, StandsFor, standing_of}, Damage.IsFirstWrong, declared.{found.{Found.Found, Contents.{Contents, TheVariants.{Closed, Standing}}}, fault.FileFault.{FileFault, TheVariants.{Bad, NoMemory}}}}

-- the file is empty, or its gate is closed
abbrev pub IsClosed : List ℕ → Type 0
IsClosed [] = Unit {0}
IsClosed (gate ∷ rest) = gate ≡ 0

-- what was found are this content's epoch, rows and counts; it is clean where no batch comes after a clean base
pub record IsFound (found : Found) (content : Content) : Type 0 where
  pub epoch : found.epoch ≡ content.epoch
  pub base_end : found.base_end ≡ 1 + length (base_bytes content.epoch content.clean content.base_count content.base_rows)
  pub base_count : found.base_count ≡ content.base_count
  pub rows : found.rows ≡ (standing_of content).rows
  pub count : found.count ≡ (standing_of content).count
  pub batches : found.batches ≡ length content.batches
  pub clean : found.clean ≡ (if nat_eq (length content.batches) 0 then content.clean else false)

-- one file
abbrev pub Holds : Which → Contents → List ℕ → Type 0
Holds file Closed bytes = IsClosed bytes
Holds file (Standing found) bytes = (content : Content) × StandsFor bytes content found.end × IsFound found content × (found.file ≡ file)

-- whatever the file stands for, that was found
abbrev pub IsOf : Content → ℕ → Contents → Type 0
IsOf content end Closed = ⊥
IsOf content end (Standing found) = (found.end ≡ end) × IsFound found content

-- the file is open, and stands for nothing
pub record MeansNothing (bytes : List ℕ) : Type 0 where
  pub not_closed : IsClosed bytes → ⊥
  pub no_log : (content : Content) (end : ℕ) → StandsFor bytes content end → ⊥

-- the file is damaged, and its first wrong byte is there
abbrev pub Damages : List ℕ → FileFault → Type 0
Damages bytes (Bad at) = MeansNothing bytes × IsFirstWrong bytes at
Damages bytes NoMemory = Unit {0}
