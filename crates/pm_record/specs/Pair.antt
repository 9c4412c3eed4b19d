-- What the two log files stand for together.
use Rattle.std.specs.Prelude.{◌≡◌, ◌⊎◌, ℕ, ◌+◌, ◌<◌, List, ◌∷◌}
use Rattle.pm_disk.specs.{declared.disk.Which.Which, Files.{Files, file_of, other}}
use Rattle.pm_rows.specs.Standing.{Standing}
use Rattle.pm_record.specs.StandsFor.{Content, StandsFor, standing_of}

-- the file isn't empty, and its gate is closed
abbrev pub IsShut : List ℕ → Type 0
IsShut bytes = (behind : List ℕ) × (bytes ≡ 0 ∷ behind)

-- a file that doesn't count beside one of this epoch: it is shut, or it stands for something of a smaller epoch
abbrev pub Yields : List ℕ → ℕ → Type 0
Yields bytes epoch = IsShut bytes ⊎ ((content : Content) × (end : ℕ) × StandsFor bytes content end × (content.epoch < epoch))

-- The pair stands for what this file of it does.
pub record PairStandsFor (files : Files) (file : Which) (content : Content) (end : ℕ) : Type 0 where
  pub stands : StandsFor (file_of files file) content end
  pub beside : Yields (file_of files (other file)) content.epoch

-- The files mean these rows after so many commits, and the file that counts has so many bytes, up to and with its
-- closed gate.
pub record MeansIn (files : Files) (standing : Standing) (bytes : ℕ) : Type 0 where
  pub file : Which
  pub content : Content
  pub end : ℕ
  pub pair : PairStandsFor files file content end
  pub is : standing_of content ≡ standing
  pub long : end + 1 ≡ bytes

-- in however many bytes
abbrev pub Means : Files → Standing → Type 0
Means files standing = (bytes : ℕ) × MeansIn files standing bytes

-- whatever the one pair means, the other means too
abbrev pub MeansWhat : Files → Files → Type 0
MeansWhat earlier image = (standing : Standing) → (bytes : ℕ) → MeansIn earlier standing bytes → MeansIn image standing bytes

-- the files mean whatever some outcome of an earlier stop means
abbrev pub MeansAsOne : (Files → Type 0) → Files → Type 0
MeansAsOne before image = ∥ ((earlier : Files) × before earlier × MeansWhat earlier image) ∥₁
