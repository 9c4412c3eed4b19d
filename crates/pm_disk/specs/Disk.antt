-- What a device call may do to the files, and what a stop may leave of them.
use Rattle.std.specs.Prelude.{◌≡◌, ◌⊎◌, ◌↔◌, ℕ, ◌+◌, ◌-◌, ◌^◌, ◌<◌, ◌≤◌, min, List, length, Option, None, Some, slice_get}
use Rattle.pm_disk.specs.{declared.disk.Which.Which, Files.{Files, file_of, other}}

-- one call more, up to the last number
abbrev pub next_tick : ℕ → ℕ
next_tick t = min (t + 1) (2 ^ 64 - 1)

-- One call goes by. What a stop may have left after an earlier one never changes.
pub record Elapses (before now : ℕ) (images_before images_now : ℕ → Files → Type 0) : Type 0 where
  pub later : before ≤ now
  pub tick : now ≡ next_tick before
  pub past : (t : ℕ) → t ≤ before → (image : Files) → images_now t image ↔ images_before t image

-- a stop leaves nothing that it couldn't leave before
abbrev pub StopsNoWider : (Files → Type 0) → (Files → Type 0) → Type 0
StopsNoWider before now = (image : Files) → now image → before image

-- a stop leaves one of the files with these bytes
abbrev pub Only : Which → List ℕ → (Files → Type 0) → Type 0
Only file bytes images = (image : Files) → images image → file_of image file ≡ bytes

-- whatever a stop leaves now, it could leave before up to this change
abbrev pub Follows : (Files → Files → Type 0) → (Files → Type 0) → (Files → Type 0) → Type 0
Follows change before now = (image : Files) → now image → (earlier : Files) × before earlier × change earlier image

-- a disk that tells its files goes on telling them, and they have changed so
abbrev pub TellsStill : (Files → Files → Type 0) → Option Files → Option Files → Type 0
TellsStill change None now = now ≡ None
TellsStill change (Some before) None = ⊥
TellsStill change (Some before) (Some now) = change before now

-- A write of so many bytes at a place of one file, stopped anywhere: its range and all past the old end may hold any
-- bytes. The rest stands, and so does the other file.
pub record Torn (file : Which) (at count : ℕ) (old new : Files) : Type 0 where
  pub no_shorter : length (file_of old file) ≤ length (file_of new file)
  pub outside : (i : ℕ) → i < length (file_of old file) → (i < at) ⊎ (at + count ≤ i)
      → slice_get (file_of new file) i ≡ slice_get (file_of old file) i
  pub beside : file_of new (other file) ≡ file_of old (other file)
