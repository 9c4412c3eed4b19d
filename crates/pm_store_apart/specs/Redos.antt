-- What redo and checkpoints come to, and where.
use Rattle.std.specs.Prelude.{◌≡◌, ◌≢◌, ◌⊎◌, ℕ, ◌^◌, ◌-◌, ◌<◌, ◌≤◌, Bool, true, false, [], Option, None, Some, is_some, IfSome, Result, Ok, Err}
use Rattle.pm_query.specs.{pm_disk.{Files.{Files, file_of, other}, declared.disk.Which.Which}, pm_rows.Fold.RowMap, pm_record.{Pair.{IsShut, PairStandsFor}, StandsFor.{Content, StandsFor, standing_of}, declared.fault.RedoFault.RedoFault}, declared.store.{Checkpointed.{Checkpointed, TheVariants.{Done, Skipped, NotDue}}, StoreNo.{StoreNo, TheVariants.{Disk, Broken, Full, Redo}}}, Calls.due_bytes}
use Rattle.pm_query.specs.pm_record.declared.fault.RedoFault.TheVariants as reasons
use Rattle.pm_redo.specs.Found.{IsReason}
use Rattle.pm_store_apart.specs.{Fronts.whole_of, Moment.Moment, declared.live.Live.Live}

-- the log goes on after a redo
abbrev pub IsRead : Option Live → Type 0
IsRead live = (its : Live) × (live ≡ Some its)

-- the log goes on, and is due for a checkpoint
pub record IsDue (live : Option Live) (clean : Bool) : Type 0 where
  pub its : Live
  pub read : live ≡ Some its
  pub unbroken : its.log.since ≡ None
  pub due : (clean ≡ true) ⊎ (due_bytes ≤ its.log.end - its.log.base_end)

-- it goes on, and isn't, with so many bytes after its base
pub record IsNotDue (live : Option Live) (clean : Bool) (behind : ℕ) : Type 0 where
  pub its : Live
  pub read : live ≡ Some its
  pub unbroken : its.log.since ≡ None
  pub unclean : clean ≡ false
  pub behind_is : behind ≡ its.log.end - its.log.base_end
  pub few : behind < due_bytes

-- it was broken at this tick
pub record IsBroken (live : Option Live) (since : ℕ) : Type 0 where
  pub its : Live
  pub read : live ≡ Some its
  pub broken : its.log.since ≡ Some since

abbrev pub is_broken : Option Live → Bool
is_broken None = false
is_broken (Some its) = is_some its.log.since

-- Where a checkpoint comes to what it answers. The causes of any two answers exclude each other, but for want of memory
-- and faults of the disk.
abbrev pub CheckpointCause : Option Live → Bool → Result Checkpointed StoreNo → Type 0
CheckpointCause live clean (Ok (Done epoch)) = IsDue live clean
CheckpointCause live clean (Ok Skipped) = live ≡ None
CheckpointCause live clean (Ok (NotDue behind)) = IsNotDue live clean behind
CheckpointCause live clean (Err (Broken since)) = IsBroken live since
CheckpointCause live clean (Err (Full need room)) = IsDue live clean
CheckpointCause live clean (Err Disk) = IsDue live clean
CheckpointCause live clean (Err _) = Unit {0}

-- only one that was made, or tried, has made calls of the disk
abbrev pub MakesCalls : Result Checkpointed StoreNo → Type 0
MakesCalls (Ok (Done epoch)) = Unit {0}
MakesCalls (Err Disk) = Unit {0}
MakesCalls _ = ⊥

-- why a redo refuses the files
abbrev pub HasReason : Option Files → Result ℕ StoreNo → Type 0
HasReason seen result = (fault : RedoFault) → result ≡ Err (Redo fault) → IfSome seen (IsReason fault)

-- one that is refused by no fault of the disk leaves them as they read
abbrev pub LeavesFiles : (before now : Option Files) → Result ℕ StoreNo → Type 0
LeavesFiles before now result = (fault : RedoFault) → result ≡ Err (Redo fault) → fault ≢ reasons.Disk → now ≡ before

-- and one that is refused otherwise than for want of memory leaves the log unread
abbrev pub LeavesUnread : Option Live → Result ℕ StoreNo → Type 0
LeavesUnread live result = (fault : RedoFault) → result ≡ Err (Redo fault) → fault ≢ reasons.NoMemory → live ≡ None

-- These files stand for a content of the epoch that the generation's first redo found, and the log goes on at its end.
pub record IsFoundIn (its : Live) (files : Files) : Type 0 where
  pub content : Content
  pub pair : PairStandsFor files its.log.file content its.log.end
  pub epoch_is : its.epoch ≡ content.epoch

-- so the first redo of a generation goes on with the files as they read
abbrev pub GoesOnAsFound : (before now : Moment) → Type 0
GoesOnAsFound before now = before.live ≡ None → (its : Live) → now.live ≡ Some its → IfSome before.files (IsFoundIn its)

-- a redo that is refused so says nothing of the files: the disk has failed, or memory was short
abbrev pub SaysNothing : RedoFault → Type 0
SaysNothing reasons.Disk = Unit {0}
SaysNothing reasons.NoMemory = Unit {0}
SaysNothing _ = ⊥

-- The files stand for these rows after all commits, in this epoch: a base with nothing after it, clean or not.
pub record StandsAfresh (epoch : ℕ) (clean : Bool) (its : Live) (rows : RowMap) (files : Files) : Type 0 where
  pub content : Content
  pub stands : StandsFor (file_of files its.log.file) content its.log.end
  pub beside : IsShut (file_of files (other its.log.file))
  pub epoch_is : content.epoch ≡ epoch
  pub clean_is : content.clean ≡ clean
  pub no_batch : content.batches ≡ []
  pub is : standing_of content ≡ record { rows = rows; count = whole_of its }

-- so the log goes on after a checkpoint
abbrev pub IsAfreshAt : (epoch : ℕ) → (clean : Bool) → Option Live → RowMap → Option Files → Type 0
IsAfreshAt epoch clean live rows seen =
    (its : Live) × (live ≡ Some its) × (its.log.since ≡ None) × (its.log.epoch ≡ epoch) × IfSome seen (λ files. ∥ StandsAfresh epoch clean its rows files ∥₁)

abbrev pub IsCleanAt : ℕ → Option Live → RowMap → Option Files → Type 0
IsCleanAt epoch live rows seen = IsAfreshAt epoch true live rows seen

-- so it does after one that was made
abbrev pub MadeAfresh : Bool → Moment → Result Checkpointed StoreNo → Type 0
MadeAfresh clean at result = (epoch : ℕ) → result ≡ Ok (Done epoch) → IsAfreshAt epoch clean at.live at.rows at.files

-- The log stands in its last epoch, after which there is none.
pub record IsAtLastEpoch (files : Files) : Type 0 where
  pub file : Which
  pub content : Content
  pub end : ℕ
  pub pair : PairStandsFor files file content end
  pub last : content.epoch ≡ 2 ^ 64 - 1

-- without room for a checkpoint it does
abbrev pub FullAtLast : Option Files → Result Checkpointed StoreNo → Type 0
FullAtLast seen result = (need room : ℕ) → result ≡ Err (Full need room) → IfSome seen (λ files. ∥ IsAtLastEpoch files ∥₁)
