-- What a disk in memory tells.
use Rattle.std.specs.Prelude.{◌≡◌, ℕ, List, length}
use Rattle.pm_disk.specs.{Files.{Files, file_of, with_file, overwritten}, Disk.{Elapses, Follows, Only, StopsNoWider, Torn}, Past.{MayLeave, state_at}, Stop.stopped, declared.{disk.Which.Which, mem_disk.MemDisk.MemDisk}}

-- the files as they read
abbrev pub files_of : MemDisk → Files
files_of disk = record { a = disk.a.bytes.items; b = disk.b.bytes.items }

abbrev pub mem_ticks : MemDisk → ℕ
mem_ticks disk = disk.ticks

abbrev pub mem_faults : MemDisk → ℕ
mem_faults disk = disk.faults

-- a stop after so many ticks leaves each file as its own calls up to there let it
pub record MayLeaveAt (disk : MemDisk) (tick : ℕ) (image : Files) : Type 0 where
  pub a : MayLeave (state_at disk.a.past.items tick) image.a
  pub b : MayLeave (state_at disk.b.past.items tick) image.b

-- as a stop after so many ticks leaves them: the fill stands in each place written since a file's last sync, and past
-- its length at that sync are at most so many bytes
abbrev pub stopped_files : MemDisk → ℕ → List ℕ → ℕ → Files
stopped_files disk tick fill beyond = record {
  a = stopped fill beyond (state_at disk.a.past.items tick);
  b = stopped fill beyond (state_at disk.b.past.items tick);
}

-- a call goes by that changes neither the files nor what a stop may leave of them
pub record ChangesNoFile (old new : MemDisk) : Type 0 where
  pub seen : files_of new ≡ files_of old
  pub images : StopsNoWider (MayLeaveAt old old.ticks) (MayLeaveAt new new.ticks)
  pub time : Elapses old.ticks new.ticks (MayLeaveAt old) (MayLeaveAt new)

-- a call writes these bytes there
pub record Writes (old new : MemDisk) (file : Which) (at : ℕ) (bytes : List ℕ) : Type 0 where
  pub written : files_of new ≡ with_file (files_of old) file (overwritten (file_of (files_of old) file) at bytes)
  pub images : Follows (Torn file at (length bytes)) (MayLeaveAt old old.ticks) (MayLeaveAt new new.ticks)
  pub time : Elapses old.ticks new.ticks (MayLeaveAt old) (MayLeaveAt new)

-- a call makes a file durable
pub record Syncs (old new : MemDisk) (file : Which) : Type 0 where
  pub durable : Only file (file_of (files_of old) file) (MayLeaveAt new new.ticks)
  pub keeps : ChangesNoFile old new

-- no call was counted, and nothing has changed
pub record Stays (old new : MemDisk) : Type 0 where
  pub ticks : new.ticks ≡ old.ticks
  pub a_bytes : new.a.bytes.items ≡ old.a.bytes.items
  pub a_past : new.a.past.items ≡ old.a.past.items
  pub b_bytes : new.b.bytes.items ≡ old.b.bytes.items
  pub b_past : new.b.past.items ≡ old.b.past.items
