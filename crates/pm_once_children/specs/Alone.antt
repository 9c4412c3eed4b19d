-- What a child does that is alone with its store: one piece of work, besides its coming and its going.
use Rattle.std.specs.Prelude.{◌≡◌, ◌⊎◌, ℕ, true, List, [], ◌∷◌, Option, Some, Result, Err}
use Rattle.pm_segment.specs.{pm_query.{declared.{book.BookEntry.{BookEntry, TheVariants.{Attached, Detached}}, store.{Checkpointed.Checkpointed, StoreNo.{StoreNo, TheVariants.NoMemory}}}, Calls.{User, RedoNotes, CheckpointNotes}}, Moment.Moment, Moves.Moves, Redos.{FullAtLast, HasReason, LeavesFiles, LeavesUnread, MadeAfresh}}
use Rattle.pm_once_children.specs.declared.alone.Work.{Work, TheVariants.{ToRead, Redone, ToClose, Made}}

-- the entries of its work, without those of its coming and its going
abbrev pub work_in : List BookEntry → List BookEntry
work_in [] = []
work_in (Attached pid generation ∷ entries) = work_in entries
work_in (Detached pid ∷ entries) = work_in entries
work_in (entry ∷ entries) = entry ∷ work_in entries

-- files, log and rows are as they were
pub record Keeps (before now : Moment) : Type 0 where
  pub files : now.files ≡ before.files
  pub live : now.live ≡ before.live
  pub rows : now.rows ≡ before.rows

-- a redo came to this, which tells of the files that it found
pub record HasRead (redone : Result ℕ StoreNo) (noted : List BookEntry) (before now : Moment) : Type 0 where
  pub who : User
  pub notes : RedoNotes who redone noted
  pub reason : HasReason before.files redone
  pub kept : LeavesFiles before.files now.files redone
  pub unread : LeavesUnread now.live redone

-- the last checkpoint came to this, which tells of what it left
pub record HasClosed (made : Result Checkpointed StoreNo) (noted : List BookEntry) (now : Moment) : Type 0 where
  pub who : User
  pub notes : CheckpointNotes who true made noted
  pub full : FullAtLast now.files made
  pub afresh : MadeAfresh true now made

-- it did nothing; or it read the log, or made the last checkpoint, which was to be done
abbrev pub HasDone : List BookEntry → (work after : Work) → (before now : Moment) → Type 0
HasDone noted work after before now =
    ((after ≡ work) × (noted ≡ []) × Keeps before now)
    ⊎ (((work ≡ ToRead) × (redone : Result ℕ StoreNo) × (after ≡ Redone redone) × HasRead redone noted before now)
    ⊎ ((work ≡ ToClose) × (made : Result Checkpointed StoreNo) × (after ≡ Made made) × HasClosed made noted now))

-- It noted these entries, by which the store has moved.
pub record Does (entries : List BookEntry) (work after : Work) (before now : Moment) : Type 0 where
  pub moves : Moves entries before now
  pub done : HasDone (work_in entries) work after before now

-- ---- what its work came to

-- the redo of a child that the store refused so, if it did: for one that didn't come in memory was short
abbrev pub redone_by : Option StoreNo → Work → Result ℕ StoreNo
redone_by (Some NoMemory) work = Err NoMemory
redone_by fault (Redone redone) = redone
redone_by fault work = Err NoMemory

abbrev pub made_by : Option StoreNo → Work → Result Checkpointed StoreNo
made_by (Some NoMemory) work = Err NoMemory
made_by fault (Made made) = made
made_by fault work = Err NoMemory
