-- What reading the two files leaves as it was.
use Rattle.std.specs.Prelude.{◌≡◌, ℕ, Option}
use Rattle.pm_record.specs.{pm_disk.{Disk.TellsStill, Files.Files}, OnDisk.{FollowsWithin, GoesOn}}

-- the same files
abbrev pub Same : Files → Files → Type 0
Same earlier image = image ≡ earlier

-- Calls went by that change no file: whatever a stop leaves at a tick of them, it could leave at the first.
pub record IsQuiet (seen_before seen_now : Option Files) (from to : ℕ) (before now : ℕ → Files → Type 0) : Type 0 where
  pub seen : seen_now ≡ seen_before
  pub stops : FollowsWithin Same from to before now
  pub time : GoesOn from to before now

-- a stop leaves these files and no others
abbrev pub IsOnly : Files → (Files → Type 0) → Type 0
IsOnly files images = (image : Files) → images image → image ≡ files

-- a disk that tells its files goes on telling them, and one that doesn't begins nothing of it
abbrev pub GoesOnTelling : Option Files → Option Files → Type 0
GoesOnTelling before now = TellsStill (λ files files_now. Unit {0}) before now
