-- How a server ends: what its journal, its book and its disk say of that, and what is told.
use Rattle.std.specs.Prelude.{◌≡◌, ◌≢◌, ◌⊎◌, ℕ, true, false, List, [], codes, Option, None, Some, IfSome}
use Rattle.pm_query.specs.{pm_disk.{Cause.Rose, Files.Files}, pm_record.declared.fault.RedoFault.RedoFault, declared.book.BookEntry.BookEntry}
use Rattle.pm_state.specs.{pm_supervisor.declared.{Ending.Ending, Limits.Limits}, declared.event.PmEvent.PmEvent, Journal.{Follows, all_replayed, replay_begun}}
use Rattle.pm_state.specs.pm_supervisor.declared.Ending.TheVariants as endings
use Rattle.pm_state.specs.declared.event.PmEvent.TheVariants as entry
use Rattle.pm_query.specs.pm_record.declared.fault.RedoFault.TheVariants as redo
use Rattle.pm_segment.specs.{pm_redo.Found.IsReason, Moment.Moment, pm_outside.Added.Added, Unread.has_break, Redos.{IsAtLastEpoch, IsCleanAt, SaysNothing}}
use Rattle.pm_supervisor_journal.specs.Stands.{any_moment}
use Rattle.pm_server_lines.specs.Print.{redo_line}
use Rattle.pm_server.specs.{Story.HasOneGeneration, Views.{DiskView, StoreView}, declared.end.{ServerEnd.{ServerEnd, TheVariants.{Clean, Abnormal, NoThread, NoMemory}}, StartWhy.TheVariants.{Redo, Killed}, Why.TheVariants.{AfterCrash, StartupFailed, RestartOff, GenerationsSpent}}}

-- ---- by its journal

-- How a server ended, by how its machine did as the last of all, and by its journal: without a restart only where the options
-- say so, and for want of a generation where the next entry would be the reset of one that has no number.
abbrev pub IsEndBy : (ended : Ending → Type 0) → Limits → ServerEnd → List PmEvent → Type 0
IsEndBy ended limits Clean journal = ended endings.Clean
IsEndBy ended limits (Abnormal AfterCrash) journal = ended endings.AfterCrash
IsEndBy ended limits (Abnormal RestartOff) journal = ended endings.RestartOff × (limits.restart_after_crash ≡ false)
IsEndBy ended limits (Abnormal (StartupFailed why)) journal = ended endings.StartupFailed
IsEndBy ended limits (Abnormal GenerationsSpent) journal =
    ((all_replayed (replay_begun limits) journal).shown.generation ≡ 4294967295)
    × Follows any_moment (all_replayed (replay_begun limits) journal) (entry.Reset 4294967296)
IsEndBy ended limits NoThread journal = journal ≡ []
IsEndBy ended limits NoMemory journal = Unit {0}

-- ---- by its book and its disk

-- The book begins with the opening of the store, or there was no memory for that, or no thread, and nothing else was done.
abbrev pub IsBook : (nothing_done : Type 0) → ServerEnd → (book : List BookEntry) → (before now : Option (List BookEntry)) → Type 0
IsBook nothing_done NoMemory book before now = (nothing_done × (now ≡ before)) ⊎ Added book before now
IsBook nothing_done NoThread book before now = (nothing_done × (now ≡ before)) ⊎ Added book before now
IsBook nothing_done end book before now = Added book before now

-- the files are those that were handed in, unless a fault of the disk was noted
abbrev pub AreHandedIn : List BookEntry → (before now : DiskView) → Type 0
AreHandedIn book before now = (has_break book ≡ true) ⊎ (now.files ≡ before.files)

-- So they are where the store was opened once; and where its book tells all of it, and the disk its files.
pub record AreTraced (book : List BookEntry) (before now : StoreView) : Type 0 where
  pub once : HasOneGeneration book → AreHandedIn book before.disk now.disk
  pub told : before.book ≡ Some [] → now.book ≢ None → IfSome now.disk.files (λ _. AreHandedIn book before.disk now.disk)

-- The startup child failed for this reason. A fault of the disk has risen its count. For any other reason the files stand for
-- nothing, and they are those that were handed in.
abbrev pub IsFailedBy : RedoFault → List BookEntry → (before now : StoreView) → Type 0
IsFailedBy redo.Disk book before now = Rose before.disk.faults now.disk.faults
IsFailedBy redo.NoMemory book before now = ⊥
IsFailedBy fault book before now = IfSome now.disk.files (IsReason fault) × AreTraced book before now

-- Why it ended abnormally, of a server of one thread, by its disk: the disk has failed, or the log stands in its last epoch. No
-- child crashes otherwise before a shutdown is asked for, none is killed, and no other thread is wanted.
abbrev pub IsCausedBy : ServerEnd → List BookEntry → (before now : StoreView) → Type 0
IsCausedBy (Abnormal AfterCrash) book before now =
    Rose before.disk.faults now.disk.faults ⊎ IfSome now.disk.files (λ files. ∥ IsAtLastEpoch files ∥₁)
IsCausedBy (Abnormal (StartupFailed (Redo fault))) book before now = IsFailedBy fault book before now
IsCausedBy (Abnormal (StartupFailed Killed)) book before now = ⊥
IsCausedBy NoThread book before now = ⊥
IsCausedBy (Abnormal RestartOff) book before now = Rose before.disk.faults now.disk.faults
IsCausedBy (Abnormal GenerationsSpent) book before now = Rose before.disk.faults now.disk.faults
IsCausedBy _ book before now = Unit {0}

-- The disk hasn't failed, a redo reads the files that were handed in, and those that are left stand in an epoch after which
-- there is another.
pub record IsSound (before now : DiskView) : Type 0 where
  pub unfailed : ¬ (Rose before.faults now.faults)
  pub first : Files
  pub handed_in : before.files ≡ Some first
  pub read : (reason : RedoFault) → IsReason reason first → SaysNothing reason
  pub last : Files
  pub left : now.files ≡ Some last
  pub epoch : ¬ (∥ IsAtLastEpoch last ∥₁)

-- then it has ended clean, or for want of memory
abbrev pub EndsWell : ServerEnd → (before now : DiskView) → Type 0
EndsWell end before now = IsSound before now → (end ≡ Clean) ⊎ (end ≡ NoMemory)

-- ---- what is known of its store

-- a redo was refused so, of the files as they are, and the log isn't read
abbrev pub HasRefused : RedoFault → (from : ℕ) → Moment → Type 0
HasRefused redo.Disk from at = Rose from at.faults
HasRefused redo.NoMemory from at = ⊥
HasRefused fault from at = IfSome at.files (IsReason fault) × (at.live ≡ None)

-- where a server of one thread ends so whose disk's count of faults was this one at first
abbrev pub IsKnownAt : ServerEnd → (from : ℕ) → Moment → Type 0
IsKnownAt Clean from at = (epoch : ℕ) × IsCleanAt epoch at.live at.rows at.files
IsKnownAt (Abnormal AfterCrash) from at = Rose from at.faults ⊎ IfSome at.files (λ files. ∥ IsAtLastEpoch files ∥₁)
IsKnownAt (Abnormal (StartupFailed (Redo fault))) from at = HasRefused fault from at
IsKnownAt (Abnormal (StartupFailed Killed)) from at = ⊥
IsKnownAt NoThread from at = ⊥
IsKnownAt (Abnormal RestartOff) from at = Rose from at.faults
IsKnownAt (Abnormal GenerationsSpent) from at = Rose from at.faults
IsKnownAt NoMemory from at = Unit {0}

-- ---- what is told

-- the line of an end, after those of the journal
abbrev pub end_line : ServerEnd → List ℕ
end_line (Abnormal (StartupFailed (Redo fault))) = redo_line fault
end_line (Abnormal (StartupFailed Killed)) = codes "startup was killed\n"
end_line (Abnormal GenerationsSpent) = codes "no generation is left\n"
end_line NoThread = codes "no thread\n"
end_line NoMemory = codes "out of memory\n"
end_line _ = []
