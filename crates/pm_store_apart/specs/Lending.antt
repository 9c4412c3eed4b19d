-- A flush in three parts: the disk is lent with a batch, the batch is written, and what that came to is marked.
use Rattle.std.specs.Prelude.{◌≡◌, ◌≢◌, ℕ, ◌+◌, ◌^◌, ◌<◌, ◌≤◌, true, false, List, [], ◌++◌, length, take, Option, None, Some, IfSome, Result, Ok, Err}
use Rattle.pm_disk.specs.declared.disk.Disk as Disk
use Rattle.pm_log.specs.{Append.MeansOneOf, Half.Half, Log.{Lives, room_of}, Making.{IsUnderWay, Makes}, declared.log.Log.Log}
use Rattle.pm_query.specs.{pm_disk.{Cause.Rose, Disk.TellsStill, Files.{Files, file_of}}, pm_rows.{declared.commit.Change.Change, Batch.IsBatch, Limits.max_commits, Standing.after}, pm_record.{OnDisk.{GoesOn, Throughout}, StandsFor.{Content, MayAppend, standing_of, with_batch}}, Calls.{FlushNotes, User}, declared.{book.BookEntry.BookEntry, store.StoreNo.StoreNo}}
use Rattle.pm_query.specs.declared.store.StoreNo.TheVariants as refusal
use Rattle.pm_query.specs.pm_rows.LogSize as log
use Rattle.pm_store_apart.specs.{declared.{apart.Apart.Apart, batch.{Batch.Batch, Lending.{Lending, TheVariants.{Answered, Lent}}, Written.Written}, commits.Commits.Commits, live.Live.Live}, Apart.{Grows, HasLog}, Flushes.FlushCause, Fronts.flushed_of, Moment.{KeepsLog, over_as}, Moves.Moves, Rests.IsAtRest}
use Rattle.pm_store_apart.specs.declared.batch.Written.TheVariants as written

-- ---- the disk is lent

abbrev pub IsHome : {D B : Type 0} {g h : _} → Apart D B g h → Type 0
IsHome apart = apart.lent ≡ false

-- The log is the one for which the batch was copied, the batch is the oldest of what is staged, and the disk is lent.
pub record IsUnder {D B : Type 0} {g h : _} (batch : Batch) (apart : Apart D B g h) : Type 0 where
  pub log : HasLog batch.log apart.live
  pub rest : List (List Change)
  pub staged : apart.stage.commits ≡ batch.commits.items ++ rest
  pub out : apart.lent ≡ true

-- The batch can go into the log that rests on this disk.
pub record IsReadyFor (batch : Batch) (seen : Option Files) : Type 0 where
  pub unbroken : batch.log.since ≡ None
  pub is_batch : IsBatch batch.commits.items
  pub number : batch.log.count + length batch.commits.items < 2 ^ 64
  pub fits : log.need_of batch.commits.items ≤ room_of batch.log
  pub gate : IfSome seen (λ files. batch.log.end < length (file_of files batch.log.file))

-- The disk is lent with a copy of the oldest batch. Else nothing has changed.
pub record Lends {D B : Type 0} {g h : _} (batch : Batch) (before now : Apart D B g h) : Type 0 where
  pub moves : (ways : Commits) (disk : D) → Moves [] (over_as ways disk before) (over_as ways disk now)
  pub rests : (disk : D) → IsAtRest disk before → IsAtRest disk now
  pub keeps : KeepsLog before now
  pub oldest : batch.commits.items ≡ take max_commits before.stage.commits
  pub some : before.stage.commits ≢ []
  pub under : IsUnder batch now
  pub ready : (disk : D) → IsAtRest disk before → IsReadyFor batch (g.seen disk)

-- Without a disk it is answered that nothing is staged, or why nothing can be flushed.
pub record IsAnswered {D B : Type 0} {g h : _} (user : User) (before now : Apart D B g h) (result : Result ℕ StoreNo) : Type 0 where
  pub entries : List BookEntry
  pub grows : Grows entries before now
  pub notes : FlushNotes user result entries
  pub keeps : KeepsLog before now
  pub cause : (ways : Commits) (disk : D) → FlushCause (over_as ways disk before) (over_as ways disk now) result

abbrev pub LendsOrAnswers : {D B : Type 0} {g h : _} → User → (before now : Apart D B g h) → Lending → Type 0
LendsOrAnswers user before now (Answered result) = IsAnswered user before now result
LendsOrAnswers user before now (Lent batch) = Lends batch before now

-- ---- the batch is written

-- the log with the batch
abbrev pub log_with : Batch → Log
log_with batch = record batch.log {
  end = batch.log.end + log.need_of batch.commits.items;
  count = batch.log.count + length batch.commits.items;
}

-- what a stop may leave meanwhile
abbrev pub StopsAt : Log → List (List Change) → (from to : ℕ) → (before : Files → Type 0) → (now : ℕ → Files → Type 0) → Files → Type 0
StopsAt its batch from to before now files =
    (content : Content) → Lives its content files before → MayAppend (standing_of content) batch
    → Throughout from to now (MeansOneOf (standing_of content) (its.end + 1) (after (standing_of content) batch) (its.end + 1 + log.need_of batch))

-- and how the log lives then
abbrev pub LivesAt : (its new : Log) → List (List Change) → (before now : Files → Type 0) → (files files_now : Files) → Type 0
LivesAt its new batch before now files files_now =
    (content : Content) → Lives its content files before → MayAppend (standing_of content) batch → Lives new (with_batch content batch) files_now now

-- and what is made of the other file
abbrev pub MakesWith : (its new : Log) → List (List Change) → (files files_now : Files) → Type 0
MakesWith its new batch files files_now = (content : Content) (half : Half) → Makes half its.file its.end content files → Makes half new.file new.end (with_batch content batch) files_now

module _ {D : Type 0} (g : Disk.Ghosts D) where
  -- The batch is durable. A file that is being made beside the log is made of it too.
  pub record IsDurable (taken now : D) (batch : Batch) (new : Log) (tick : ℕ) : Type 0 where
    pub grown : new ≡ log_with batch
    pub tick_is : tick ≡ g.ticks now
    pub lives : TellsStill (LivesAt batch.log new batch.commits.items (g.images taken (g.ticks taken)) (g.images now (g.ticks now))) (g.seen taken) (g.seen now)
    pub under_way : (half : Half) → IsUnderWay batch.log half → IsUnderWay new half
    pub makes : TellsStill (MakesWith batch.log new batch.commits.items) (g.seen taken) (g.seen now)

  -- The disk has failed at it.
  pub record HasFailed (taken now : D) (batch : Batch) (new : Log) : Type 0 where
    pub broke : new ≡ record batch.log { since = Some (g.ticks now) }
    pub rose : Rose (g.faults taken) (g.faults now)

  abbrev pub CameTo : (taken now : D) → Batch → Written → Type 0
  CameTo taken now batch (written.Durable new tick) = IsDurable taken now batch new tick
  CameTo taken now batch (written.Failed new) = HasFailed taken now batch new
  CameTo taken now batch written.NoMemory = now ≡ taken

  -- Where this disk was lent, the writing of the batch has left that one and came to this. The disk has gone on in between.
  pub record Wrote (taken now : D) (batch : Batch) (result : Written) : Type 0 where
    pub unbroken : batch.log.since ≡ None
    pub is_batch : IsBatch batch.commits.items
    pub number : batch.log.count + length batch.commits.items < 2 ^ 64
    pub came : CameTo taken now batch result
    pub time : GoesOn (g.ticks taken) (g.ticks now) (g.images taken) (g.images now)
    pub later : g.faults taken ≤ g.faults now
    pub tells : g.seen taken ≡ None → g.seen now ≡ None
    pub stops : IfSome (g.seen taken) (StopsAt batch.log batch.commits.items (g.ticks taken) (g.ticks now) (g.images taken (g.ticks taken)) (g.images now))

-- ---- what it came to is marked

-- The batch was made durable and is flushed, and what was staged after it waits still.
pub record HasMarked {D B : Type 0} {g h : _} (batch : Batch) (came : Written) (before now : Apart D B g h) (flushed : ℕ) : Type 0 where
  pub tick : ℕ
  pub durable : came ≡ written.Durable (log_with batch) tick
  pub new : Live
  pub read : now.live ≡ Some new
  pub log : new.log ≡ log_with batch
  pub flushed_is : flushed ≡ flushed_of new
  pub staged : before.stage.commits ≡ batch.commits.items ++ now.stage.commits
  pub rows : now.rows ≡ before.rows

-- One that wasn't written changes nothing.
abbrev pub Marks : {D B : Type 0} {g h : _} → Batch → Written → (before now : Apart D B g h) → Result ℕ StoreNo → Type 0
Marks batch came before now (Ok flushed) = HasMarked batch came before now flushed
Marks batch came before now (Err refusal.Disk) = (new : Log) × (came ≡ written.Failed new)
Marks batch came before now (Err refusal.NoMemory) = KeepsLog before now × (came ≡ written.NoMemory)
Marks batch came before now (Err _) = ⊥
