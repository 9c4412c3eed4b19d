-- What a store keeps of its run.
use Rattle.std.specs.Prelude.{◌≡◌, ℕ, true, List, [], None, Some, IfSome}
use Rattle.pm_query.specs.{pm_disk.Files.Files, pm_record.{Pair.Means, declared.fault.RedoFault.RedoFault}, declared.book.BookEntry.BookEntry, History.{count_of, rows_of}, Book.{Base, IsLegal, faults_here, history_of, is_closed}, Durable.{HoldsAcknowledged, IsDurable}}
use Rattle.pm_redo.specs.Found.{IsReason}
use Rattle.pm_store_apart.specs.{declared.live.Live.Live, Fronts.whole_of, Moment.Moment, Redos.{IsCleanAt, SaysNothing}, Stands.Origin}

-- The book is legal from its base. After a redo of this generation the rows are those of all its commits, and so many were
-- taken while the disk hasn't failed.
pub record IsReplay (base : Base) (at : Moment) (book : List BookEntry) : Type 0 where
  pub legal : IsLegal base book
  pub rows_are : (live : Live) → at.live ≡ Some live → at.rows ≡ rows_of (history_of base book)
  pub count_is : (live : Live) → at.live ≡ Some live → live.log.since ≡ None → whole_of live ≡ count_of (history_of base book)

-- the disk's stops are those of a durable run since the store got it
abbrev pub IsRun : Origin → Base → Moment → List BookEntry → Type 0
IsRun origin base at book = IsDurable Means base book origin.tick at.ticks at.images at.images

-- Whatever a stop leaves now holds every acknowledged commit, and so do the files as they read.
pub record LeavesAcknowledged (base : Base) (at : Moment) (book : List BookEntry) : Type 0 where
  pub stops : (image : Files) → at.images at.ticks image → HoldsAcknowledged Means (history_of base book) image
  pub reads : IfSome at.files (HoldsAcknowledged Means (history_of base book))

-- a redo of the files as they read is refused by a fault of the disk, or for want of memory, alone
abbrev pub CanBeRead : Moment → Type 0
CanBeRead at = IfSome at.files (λ files. (reason : RedoFault) → IsReason reason files → SaysNothing reason)

-- Where the book says that the log was left clean, and no fault of the disk is after the generation's redo, the log still
-- stands afresh in the files, clean, for all its rows.
abbrev pub StaysClean : Moment → List BookEntry → Type 0
StaysClean at book = is_closed book ≡ true → faults_here book ≡ Some [] → (epoch : ℕ) × IsCleanAt epoch at.live at.rows at.files
