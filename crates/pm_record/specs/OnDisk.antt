-- A log on the disk, and what a stop may leave of it over a span of device calls.
use Rattle.std.specs.Prelude.{◌↔◌, ℕ, ◌≤◌}
use Rattle.pm_disk.specs.{declared.disk.Which.Which, Files.{Files, file_of, other}, Disk.{Follows, Only}}
use Rattle.pm_record.specs.{StandsFor.{Content, StandsFor}, Pair.IsShut}

-- The log rests in this file: it stands for the content, durably, and a stop leaves the other file shut. Behind its gate
-- the other file may hold anything, and a stop may leave anything of it.
pub record Rests (file : Which) (content : Content) (end : ℕ) (files : Files) (images : Files → Type 0) : Type 0 where
  pub stands : StandsFor (file_of files file) content end
  pub durable : Only file (file_of files file) images
  pub beside : (image : Files) → images image → IsShut (file_of image (other file))

-- Device calls went by, and what a stop may have left before them is as it was.
pub record GoesOn (before now : ℕ) (images_before images_now : ℕ → Files → Type 0) : Type 0 where
  pub later : before ≤ now
  pub past : (t : ℕ) → t ≤ before → (image : Files) → images_now t image ↔ images_before t image

-- at every tick from the one to the other, whatever a stop leaves is so
abbrev pub Throughout : ℕ → ℕ → (ℕ → Files → Type 0) → (Files → Type 0) → Type 0
Throughout from to images Holds = (t : ℕ) → from ≤ t → t ≤ to → (image : Files) → images t image → Holds image

-- at every tick from the one to the other, whatever a stop leaves, it could leave at the first up to this change
abbrev pub FollowsWithin : (Files → Files → Type 0) → ℕ → ℕ → (ℕ → Files → Type 0) → (ℕ → Files → Type 0) → Type 0
FollowsWithin change from to before now = (t : ℕ) → from ≤ t → t ≤ to → Follows change (before from) (now t)
