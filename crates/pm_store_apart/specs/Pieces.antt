-- A checkpoint in pieces: the log's other file is made while commits go on.
use Rattle.std.specs.Prelude.{◌≡◌, ℕ, ◌+◌, ◌-◌, ◌≤◌, false, List, [], length, Option, None, Some, IfSome, Result, Ok, Err}
use Rattle.pm_disk.specs.declared.disk.Disk as Disk
use Rattle.pm_log.specs.{Append.MeansOneOf, Half.{Half, over_of, whole_of}, Log.Lives, Making.{HasSwitched, IsUnderWay, Makes}, declared.log.Log.Log}
use Rattle.pm_query.specs.{pm_disk.{Cause.Rose, Disk.TellsStill, Files.{Files, file_of, other}}, pm_record.{OnDisk.{GoesOn, Throughout}, StandsFor.{Content, StandsFor, standing_of}}, Calls.{CheckpointNotes, User, due_bytes}, declared.{book.BookEntry.BookEntry, store.{Stepping.Stepping, StoreNo.StoreNo}}}
use Rattle.pm_query.specs.declared.store.Stepping.TheVariants as step
use Rattle.pm_query.specs.declared.store.StoreNo.TheVariants as refusal
use Rattle.pm_store_apart.specs.{declared.{apart.Apart.Apart, batch.Batch.Batch, commits.Commits.Commits, live.Live.Live, piece.Came.Came}, Apart.Grows, Lending.IsUnder, Moment.{KeepsLog, over_as}, Moves.Moves, Rests.IsAtRest}
use Rattle.pm_store_apart.specs.declared.piece.Came.TheVariants as came

-- ---- the file that is being made

-- It is under way in a log that is due for it, in the next epoch, and won't be longer than the log's file. While the log goes on it
-- is made of whatever the log stands for on a disk that reads so.
pub record IsMade (log : Log) (half : Half) (seen : Option Files) : Type 0 where
  pub under_way : IsUnderWay log half
  pub due : due_bytes ≤ log.end - log.base_end
  pub next : half.epoch ≡ log.epoch + 1
  pub no_longer : over_of half ≡ 0
  pub makes : log.since ≡ None → IfSome seen (λ files. (content : Content) → StandsFor (file_of files log.file) content log.end → ∥ Makes half log.file log.end content files ∥₁)

-- so it is beside a store's log, where a file is being made
abbrev pub IsMadeBeside : Option Live → Option Half → Option Files → Type 0
IsMadeBeside live None seen = Unit {0}
IsMadeBeside None (Some half) seen = ⊥
IsMadeBeside (Some live) (Some half) seen = IsMade live.log half seen

abbrev pub IsMaking : {D B : Type 0} {g h : _} → D → Apart D B g h → Option Half → Type 0
IsMaking {g = g} disk apart half = IsMadeBeside apart.live half (g.seen disk)

-- ---- the beginning

-- a file of these rows isn't longer than that of this log
abbrev pub IsNoLonger : Option Live → ℕ → Type 0
IsNoLonger None bytes = ⊥
IsNoLonger (Some live) bytes = bytes ≤ live.log.end + 1

-- beginning notes nothing but what refuses it
abbrev pub BeginNotes : User → Result (Option Half) StoreNo → List BookEntry → Type 0
BeginNotes user (Ok half) entries = entries ≡ []
BeginNotes user (Err refused) entries = CheckpointNotes user false (Err refused) entries

-- want of memory refuses it, or the last epoch
abbrev pub ListCause : Result Half StoreNo → Type 0
ListCause (Ok half) = Unit {0}
ListCause (Err refusal.NoMemory) = Unit {0}
ListCause (Err (refusal.Full need room)) = room ≡ 0
ListCause (Err _) = ⊥

-- ---- a piece is made

-- the file is written so far
abbrev pub IsPlaced : Log → Half → Files → Type 0
IsPlaced log half files = (log.end ≤ length (file_of files log.file)) × (half.done ≤ length (file_of files (other log.file)))

-- what a stop may leave meanwhile
abbrev pub StopsSameAt : Log → Half → (from to : ℕ) → (before : Files → Type 0) → (now : ℕ → Files → Type 0) → Files → Type 0
StopsSameAt log half from to before now files =
    (content : Content) → Lives log content files before → Makes half log.file log.end content files
    → Throughout from to now (MeansOneOf (standing_of content) (log.end + 1) (standing_of content) (whole_of half log.end + 1))

-- the log in the file that was made
abbrev pub switched : Log → Half → Log
switched log half = record log { file = other log.file; epoch = half.epoch; base_end = length half.base; end = whole_of half log.end; making = None }

module _ {D : Type 0} (g : Disk.Ghosts D) (taken now : D) (log : Log) (half : Half) where
  -- More of the file is made, and the log is as it was.
  pub record HasGoneOn (new : Half) : Type 0 where
    pub under_way : IsUnderWay log new
    pub epoch : new.epoch ≡ half.epoch
    pub over : over_of new ≡ over_of half
    pub lives : TellsStill (λ files files_now. (content : Content) → Lives log content files (g.images taken (g.ticks taken)) → Lives log content files_now (g.images now (g.ticks now))) (g.seen taken) (g.seen now)
    pub makes : TellsStill (λ files files_now. (content : Content) → Makes half log.file log.end content files → Makes new log.file log.end content files_now) (g.seen taken) (g.seen now)

  -- All of it was made, and the log goes on there with the same rows and number.
  pub record HasSwitchedTo (new : Log) (tick : ℕ) : Type 0 where
    pub moved : new ≡ switched log half
    pub tick_is : tick ≡ g.ticks now
    pub lives : TellsStill (λ files files_now. (content : Content) → Lives log content files (g.images taken (g.ticks taken)) → Makes half log.file log.end content files
        → HasSwitched new content files_now (g.images now (g.ticks now))) (g.seen taken) (g.seen now)

  -- The disk has failed at it, and nothing is made any more.
  pub record HasGivenUp (new : Log) : Type 0 where
    pub broke : new ≡ record log { since = Some (g.ticks now); making = None }
    pub rose : Rose (g.faults taken) (g.faults now)

  abbrev pub PieceCame : Came → Option Half → Type 0
  PieceCame came.More (Some new) = HasGoneOn new
  PieceCame (came.Switched new tick) None = HasSwitchedTo new tick
  PieceCame (came.Failed new) None = HasGivenUp new
  PieceCame _ _ = ⊥

  -- Where this disk was lent, the making of a piece has left that one and came to this.
  pub record MadePiece (what : Came) (left : Option Half) : Type 0 where
    pub unbroken : log.since ≡ None
    pub made : IsMade log half (g.seen taken)
    pub came : PieceCame what left
    pub time : GoesOn (g.ticks taken) (g.ticks now) (g.images taken) (g.images now)
    pub later : g.faults taken ≤ g.faults now
    pub tells : g.seen taken ≡ None → g.seen now ≡ None
    pub stops : IfSome (g.seen taken) (StopsSameAt log half (g.ticks taken) (g.ticks now) (g.images taken (g.ticks taken)) (g.images now))

-- ---- the disk is lent for it

-- A piece can be made of the file that is made beside this log.
pub record IsReadyForPiece (log : Log) (half : Half) (seen : Option Files) : Type 0 where
  pub unbroken : log.since ≡ None
  pub made : IsMade log half seen
  pub placed : IfSome seen (IsPlaced log half)

-- The disk is lent, with no commit. Nothing else has changed.
pub record LendsBare {D B : Type 0} {g h : _} (batch : Batch) (before now : Apart D B g h) : Type 0 where
  pub moves : (ways : Commits) (disk : D) → Moves [] (over_as ways disk before) (over_as ways disk now)
  pub keeps : KeepsLog before now
  pub bare : batch.commits.items ≡ []
  pub under : IsUnder batch now
  pub ready : (disk : D) (half : Half) → IsAtRest disk before → IsMaking disk before (Some half) → IsReadyForPiece batch.log half (g.seen disk)

-- A piece is refused, and that is noted as a checkpoint's refusal is.
pub record RefusesPiece {D B : Type 0} {g h : _} (user : User) (before now : Apart D B g h) (refused : StoreNo) : Type 0 where
  pub entries : List BookEntry
  pub grows : Grows entries before now
  pub notes : CheckpointNotes user false (Err refused) entries
  pub keeps : KeepsLog before now

-- nothing is refused but for want of memory, or since the log is broken
abbrev pub PieceCause : StoreNo → Type 0
PieceCause refusal.NoMemory = Unit {0}
PieceCause (refusal.Broken since) = Unit {0}
PieceCause _ = ⊥

abbrev pub LendsPiece : {D B : Type 0} {g h : _} → User → (before now : Apart D B g h) → Result Batch StoreNo → Type 0
LendsPiece user before now (Ok batch) = LendsBare batch before now
LendsPiece user before now (Err refused) = RefusesPiece user before now refused × PieceCause refused

-- ---- what it came to is marked

-- a piece that was made, or the change to the file, or the disk's fault
abbrev pub MarksPiece : Came → Result Stepping StoreNo → Type 0
MarksPiece what (Ok step.More) = what ≡ came.More
MarksPiece what (Ok (step.Done epoch)) = (new : Log) × (tick : ℕ) × (what ≡ came.Switched new tick) × (epoch ≡ new.epoch)
MarksPiece what (Err refusal.Disk) = (new : Log) × (what ≡ came.Failed new)
MarksPiece what _ = ⊥
