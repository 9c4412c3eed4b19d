-- What is left of a store, after all that was noted since it was opened over a disk.
use Rattle.std.specs.Prelude.{◌≡◌, ◌⊎◌, ◌≤◌, true, false, List, [], All, Option, Some, IfSome}
use Rattle.pm_server.specs.{pm_disk.Files.Files, pm_segment.{pm_redo.Found.IsReason, Moves.IsShown, Redos.SaysNothing, Unread.has_redo}, pm_query.{declared.book.BookEntry.BookEntry, Book.{Base, IsLegal, faults_here, generation_of, history_of, is_closed}}, Ends.AreHandedIn, Story.{AreLeftClean, HoldsHistory, KeepsMeaning}, Views.DiskView}
use Rattle.pm_store_shared.specs.pm_record.{OnDisk.GoesOn, declared.fault.RedoFault.RedoFault}

-- it is the first generation, or the disk tells its files
abbrev pub IsSure : List BookEntry → Option Files → Type 0
IsSure log files = (generation_of log ≡ 1) ⊎ ((its : Files) × (files ≡ Some its))

-- a redo of these files is refused by a fault of the disk, or for want of memory, alone
abbrev pub AreReadable : Files → Type 0
AreReadable files = (reason : RedoFault) → IsReason reason files → SaysNothing reason

-- What a book leaves that tells: it is legal from a base; at every tick since the opening what a stop leaves means a number of its
-- history, after the first redo, and before that what it meant at first. Where the log was left clean, and the disk hasn't failed
-- since, the files are clean. They can be read again, or they are those that were handed in.
pub record IsLeft (first now : DiskView) (log : List BookEntry) : Type 0 where
  pub base : Base
  pub faults_are : base.faults ≡ first.faults
  pub legal : IsSure log now.files → IsLegal base log
  pub stops : KeepsMeaning log first now ⊎ HoldsHistory base log first now
  pub clean : is_closed log ≡ true → faults_here log ≡ Some [] → IfSome now.files (AreLeftClean (history_of base log) now)
  pub read : IfSome now.files (λ files. AreHandedIn log first now ⊎ AreReadable files)

-- The same where the book needn't tell: no stop leaves of an earlier tick what it couldn't leave then, each fault that was noted has
-- risen the disk's count, and before the first redo the files are those that were handed in, unless the disk has failed.
pub record Remains (first now : DiskView) (book : Option (List BookEntry)) (log : List BookEntry) : Type 0 where
  pub time : GoesOn first.ticks now.ticks first.images now.images
  pub later : first.faults ≤ now.faults
  pub faults : All (IsShown first.faults now.faults) log
  pub unread : has_redo log ≡ false → AreHandedIn log first now
  pub told : IfSome book (λ its. (its ≡ log) × IsLeft first now log)
