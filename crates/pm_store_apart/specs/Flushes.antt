-- What a flush comes to.
use Rattle.std.specs.Prelude.{◌≡◌, ◌≢◌, ℕ, ◌+◌, ◌≤◌, List, [], length, take, drop, Option, None, Some, Result, Ok, Err}
use Rattle.pm_query.specs.{pm_rows.{declared.commit.Change.Change, Limits.max_commits}, Calls.NotesFault, declared.{book.BookEntry.BookEntry, store.{Checkpointed.{Checkpointed, TheVariants.Done}, StoreNo.{StoreNo, TheVariants.{Broken, Disk, NoMemory}}}}}
use Rattle.pm_store_apart.specs.{Causes.IsUnbroken, Fronts.flushed_of, Moment.Moment, Redos.IsBroken, declared.live.Live.Live}

-- The oldest of what was staged was written as one batch, and the log goes on after it.
pub record HasWritten (before now : Moment) (its new : Live) : Type 0 where
  pub read : now.live ≡ Some new
  pub unbroken : new.log.since ≡ None
  pub flushed : flushed_of new ≡ flushed_of its + length (take max_commits before.staged)
  pub staged : now.staged ≡ drop max_commits before.staged
  pub rows : now.rows ≡ before.rows

-- so it was, up to this number
pub record HasFlushedTo (before now : Moment) (flushed : ℕ) : Type 0 where
  pub its : Live
  pub read : before.live ≡ Some its
  pub unbroken : its.log.since ≡ None
  pub new : Live
  pub written : HasWritten before now its new
  pub flushed_is : flushed ≡ flushed_of new

-- A flush writes one batch of what is staged. The disk fails for that alone.
abbrev pub FlushCause : (before now : Moment) → Result ℕ StoreNo → Type 0
FlushCause before now (Ok flushed) = HasFlushedTo before now flushed
FlushCause before now (Err Disk) = IsUnbroken before.live × (before.staged ≢ [])
FlushCause before now (Err (Broken since)) = IsBroken before.live since
FlushCause before now (Err NoMemory) = Unit {0}
FlushCause before now (Err _) = ⊥

-- disk and log change where something was written, or the disk failed at it, alone
abbrev pub WritesNothing : {T : Type 0} → List (List Change) → Result T StoreNo → Type 0
WritesNothing staged (Ok done) = staged ≡ []
WritesNothing staged (Err Disk) = ⊥
WritesNothing staged (Err _) = Unit {0}

-- ---- several batches

-- The log goes on where it went on before, behind the same base and no less far.
pub record IsLonger (before now : Option Live) : Type 0 where
  pub its : Live
  pub new : Live
  pub read : before ≡ Some its
  pub read_now : now ≡ Some new
  pub unbroken : new.log.since ≡ None
  pub base_end : new.log.base_end ≡ its.log.base_end
  pub longer : its.log.end ≤ new.log.end

-- several batches come to that, to a fault of the disk, or to want of memory
abbrev pub WriteNotes : {T : Type 0} → ℕ → Result T StoreNo → List BookEntry → Type 0
WriteNotes pid (Ok done) entries = entries ≡ []
WriteNotes pid (Err Disk) entries = NotesFault pid entries
WriteNotes pid (Err NoMemory) entries = entries ≡ []
WriteNotes pid (Err _) entries = ⊥

-- ---- a checkpoint

-- after one that was made nothing is staged
abbrev pub FlushesAll : Moment → Result Checkpointed StoreNo → Type 0
FlushesAll now (Ok (Done epoch)) = now.staged ≡ []
FlushesAll now _ = Unit {0}
