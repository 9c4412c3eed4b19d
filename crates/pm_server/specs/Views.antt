-- What is told of a disk and of a store, at one moment.
use Rattle.std.specs.Prelude.{ℕ, List, Option}
use Rattle.pm_query.specs.pm_disk.declared.disk.Disk as Disk
use Rattle.pm_query.specs.{pm_disk.Files.Files, declared.book.BookEntry.BookEntry}

-- a disk: the files as they read, what a stop may leave after so many calls, and its counts of calls and faults
pub record DiskView : Type 1 where
  pub files : Option Files
  pub images : ℕ → Files → Type 0
  pub ticks : ℕ
  pub faults : ℕ

abbrev pub disk_view : {D : Type 0} → Disk.Ghosts D → D → DiskView
disk_view g disk = record { files = g.seen disk; images = g.images disk; ticks = g.ticks disk; faults = g.faults disk }

-- a store: its disk, and the entries of its book
pub record StoreView : Type 1 where
  pub disk : DiskView
  pub book : Option (List BookEntry)
