-- What changing to a file that was made leaves, at any moment and after it.
use Rattle.std.specs.Prelude.{◌≡◌, ◌≢◌, ℕ, ◌+◌, ◌<◌, List, ◌∷◌, ◌++◌}
use Rattle.pm_record.specs.{pm_disk.{declared.disk.Which.Which, Disk.Only, Files.{Files, file_of, other}}, StandsFor.{Content, StandsFor, standing_of}, OnDisk.{Rests, Throughout}}
use Rattle.pm_log.specs.Append.{MeansOneOf}

-- Behind its gate the other file is a next content, of a later epoch and with the same rows and count, durably.
pub record IsMade (file : Which) (content next : Content) (till : ℕ) (files : Files) (images : Files → Type 0) : Type 0 where
  pub gate : ℕ
  pub made : List ℕ
  pub free : List ℕ
  pub there : file_of files (other file) ≡ gate ∷ (made ++ (0 ∷ free))
  pub opens : (gate : ℕ) (free : List ℕ) → gate ≢ 0 → StandsFor (gate ∷ (made ++ (0 ∷ free))) next till
  pub durable : Only (other file) (file_of files (other file)) images
  pub same : standing_of next ≡ standing_of content
  pub later : content.epoch < next.epoch

-- While the log changes to it, a stop leaves the same rows and count.
abbrev pub KeepsChanging : Which → Files → ℕ → ℕ → (ℕ → Files → Type 0) → (ℕ → Files → Type 0) → Type 0
KeepsChanging file files from to before now =
    (content next : Content) (end till : ℕ) → Rests file content end files (before from) → IsMade file content next till files (before from)
    → Throughout from to now (MeansOneOf (standing_of content) (end + 1) (standing_of content) (till + 1))

-- and then it rests there
abbrev pub HasChanged : Which → Files → Files → (Files → Type 0) → (Files → Type 0) → Type 0
HasChanged file files now images_before images_now =
    (content next : Content) (end till : ℕ) → Rests file content end files images_before → IsMade file content next till files images_before
    → Rests (other file) next till now images_now
