-- What a store's calls note, by what they answer.
use Rattle.std.specs.Prelude.{◌≡◌, ◌≢◌, ◌⊎◌, ◌≤◌, ◌<◌, ◌↔◌, ◌++◌, ℕ, Bool, true, false, List, [], ◌∷◌, Option, None, Some, Result, Ok, Err, IsTrue}
use Rattle.pm_record.specs.{pm_rows.declared.commit.Change.Change, declared.fault.RedoFault.RedoFault}
use Rattle.pm_record.specs.declared.fault.RedoFault.TheVariants as redo
use Rattle.pm_query.specs.declared.store.Stepping.TheVariants as steps
use Rattle.pm_sql.specs.declared.stmt.Stmt.{Stmt}
use Rattle.pm_query.specs.{Answer.Writes, declared.{item.Item.Item, book.BookEntry.{BookEntry, TheVariants.{Attached, Redone, Answered, Released, Detached, CheckpointEnded, Broke, LogFull}}, store.{Staged.Staged, Seen.{Seen, TheVariants.{Released as CanBeSent, NotFlushed}}, Checkpointed.{Checkpointed, TheVariants.{Done, Skipped, NotDue}}, Stepping.Stepping, StoreNo.{StoreNo, TheVariants.{Stale, Disk, Broken, Full, Redo, NoMemory}}}}}

-- ---- a pass

-- whose it is, and the last number of commits that an answer to it was read from, if there was one
pub record PassView : Type 0 where
  pub pid : ℕ
  pub generation : ℕ
  pub front : Option ℕ

abbrev pub new_pass : ℕ → ℕ → PassView
new_pass pid generation = record { pid = pid; generation = generation; front = None }

abbrev pub with_front : ℕ → PassView → PassView
with_front front pass = record pass { front = Some front }

-- an answer at this front isn't older than what the pass has seen
abbrev pub IsNoLess : Option ℕ → ℕ → Type 0
IsNoLess None front = Unit {0}
IsNoLess (Some seen) front = seen ≤ front

abbrev pub ReachesNoLess : PassView → ℕ → Type 0
ReachesNoLess pass front = IsNoLess pass.front front

-- an answer up to this front was given to the pass
abbrev pub IsWithin : Option ℕ → ℕ → Type 0
IsWithin None front = ⊥
IsWithin (Some seen) front = front ≤ seen

abbrev pub HasReached : PassView → ℕ → Type 0
HasReached pass front = IsWithin pass.front front

-- ---- who uses the store

-- A child's pid and generation, and the generation that the store is in, where no other hand can bring it into the next.
pub record User : Type 0 where
  pub pid : ℕ
  pub generation : ℕ
  pub stamp : Option ℕ

abbrev pub user_of : Option ℕ → PassView → User
user_of stamp pass = record { pid = pass.pid; generation = pass.generation; stamp = stamp }

abbrev pub newcomer : Option ℕ → (pid generation : ℕ) → User
newcomer stamp pid generation = record { pid = pid; generation = generation; stamp = stamp }

-- the store can be in another generation
abbrev pub IsOther : Option ℕ → ℕ → Type 0
IsOther None generation = Unit {0}
IsOther (Some stamp) generation = generation ≢ stamp

abbrev pub MayBeOver : User → Type 0
MayBeOver user = IsOther user.stamp user.generation

-- ---- the generation that a store has met

-- the store has met a generation above this one
abbrev pub IsPast : (met generation : ℕ) → Type 0
IsPast met generation = generation < met

-- Who is refused as stale is told its own generation and the one that the store has met, which is another one.
abbrev pub MetAnother : {T : Type 0} → (met generation : ℕ) → Result T StoreNo → Type 0
MetAnother met generation (Err (Stale mine found)) = (mine ≡ generation) × (found ≡ met) × (generation ≢ met)
MetAnother met generation _ = Unit {0}

-- A child inside is so once the store has met a later one.
abbrev pub MetLater : {T : Type 0} → (met generation : ℕ) → Result T StoreNo → Type 0
MetLater met generation (Err (Stale mine found)) = (mine ≡ generation) × (found ≡ met) × IsPast met generation
MetLater met generation _ = Unit {0}

-- ---- what is learned of the disk

-- why the log can't be read, or up to where it is flushed
pub data DiskFact : Type 0 where
  unread_for : RedoFault → DiskFact
  flushed_to : ℕ → DiskFact

-- a redo that is refused for a reason learns it, and a flush how far it came
abbrev pub LearnsReason : (learned : DiskFact → Type 0) → Result ℕ StoreNo → Type 0
LearnsReason learned result = (fault : RedoFault) → result ≡ Err (Redo fault) → learned (unread_for fault)

abbrev pub LearnsFront : (learned : DiskFact → Type 0) → Result ℕ StoreNo → Type 0
LearnsFront learned result = (front : ℕ) → result ≡ Ok front → learned (flushed_to front)

-- ---- what the calls note

-- a fault of the disk under this child
abbrev pub NotesFault : ℕ → List BookEntry → Type 0
NotesFault pid entries = (since : ℕ) × (faults : ℕ) × (entries ≡ Broke pid since faults ∷ [])

-- one that was told before, at this tick
abbrev pub RepeatsFault : ℕ → ℕ → List BookEntry → Type 0
RepeatsFault pid since entries = (faults : ℕ) × (entries ≡ Broke pid since faults ∷ [])

abbrev pub EnterNotes : {P : Type 0} → User → Result P StoreNo → List BookEntry → Type 0
EnterNotes user (Ok pass) entries = entries ≡ Attached user.pid user.generation ∷ []
EnterNotes user (Err (Stale mine found)) entries = MayBeOver user × (entries ≡ [])
EnterNotes user (Err NoMemory) entries = entries ≡ []
EnterNotes user (Err _) entries = ⊥

-- an answer to this script
pub record NotesAnswer (pid : ℕ) (script : List Stmt) (reply : List Item) (front : ℕ) (commit : List Change) (entries : List BookEntry) : Type 0 where
  pub tick : ℕ
  pub entries_are : entries ≡ Answered pid script reply commit front tick ∷ []

-- the answer that was given, whose commit has changes where it says so
pub record NotesStaged (pid : ℕ) (script : List Stmt) (staged : Staged) (entries : List BookEntry) : Type 0 where
  pub commit : List Change
  pub answer : NotesAnswer pid script staged.reply staged.front commit entries
  pub wrote : IsTrue staged.wrote ↔ (commit ≢ [])

-- an answer that wasn't given, since the disk failed after it
pub record NotesLostAnswer (pid : ℕ) (script : List Stmt) (entries : List BookEntry) : Type 0 where
  pub reply : List Item
  pub front : ℕ
  pub commit : List Change
  pub answered : List BookEntry
  pub broke : List BookEntry
  pub answer : NotesAnswer pid script reply front commit answered
  pub fault : NotesFault pid broke
  pub entries_are : entries ≡ answered ++ broke

-- Only a script that writes is refused by the disk, or for want of room in the log.
abbrev pub RunNotes : User → (script : List Stmt) → Result Staged StoreNo → List BookEntry → Type 0
RunNotes user script (Ok staged) entries = NotesStaged user.pid script staged entries
RunNotes user script (Err (Stale mine found)) entries = MayBeOver user × (entries ≡ [])
RunNotes user script (Err Disk) entries = Writes script × (NotesFault user.pid entries ⊎ NotesLostAnswer user.pid script entries)
RunNotes user script (Err (Broken since)) entries = RepeatsFault user.pid since entries
RunNotes user script (Err (Full need room)) entries = Writes script × (entries ≡ LogFull user.pid script need room ∷ [])
RunNotes user script (Err (Redo fault)) entries = ⊥
RunNotes user script (Err NoMemory) entries = entries ≡ []

abbrev pub SeenNotes : User → (front : ℕ) → Result Seen StoreNo → List BookEntry → Type 0
SeenNotes user front (Ok CanBeSent) entries = (tick : ℕ) × (entries ≡ Released user.pid front tick ∷ [])
SeenNotes user front (Ok (NotFlushed flushed)) entries = (flushed < front) × (entries ≡ [])
SeenNotes user front (Err (Stale mine found)) entries = MayBeOver user × (entries ≡ [])
SeenNotes user front (Err (Broken since)) entries = RepeatsFault user.pid since entries
SeenNotes user front (Err NoMemory) entries = entries ≡ []
SeenNotes user front (Err _) entries = ⊥

-- a flush notes a fault, or nothing
abbrev pub FlushNotes : User → Result ℕ StoreNo → List BookEntry → Type 0
FlushNotes user (Ok flushed) entries = entries ≡ []
FlushNotes user (Err (Stale mine found)) entries = MayBeOver user × (entries ≡ [])
FlushNotes user (Err Disk) entries = NotesFault user.pid entries
FlushNotes user (Err (Broken since)) entries = RepeatsFault user.pid since entries
FlushNotes user (Err NoMemory) entries = entries ≡ []
FlushNotes user (Err _) entries = ⊥

-- a redo notes the number that it answers
abbrev pub RedoNotes : User → Result ℕ StoreNo → List BookEntry → Type 0
RedoNotes user (Ok kept) entries = entries ≡ Redone user.pid user.generation kept ∷ []
RedoNotes user (Err (Stale mine found)) entries = MayBeOver user × (entries ≡ [])
RedoNotes user (Err (Redo redo.Disk)) entries = NotesFault user.pid entries
RedoNotes user (Err (Redo _)) entries = entries ≡ []
RedoNotes user (Err _) entries = ⊥

-- the bytes of batches after the log's base with which a checkpoint is due
abbrev pub due_bytes : ℕ
due_bytes = 67108864

-- A checkpoint notes that it came to its end, made or left out. One that isn't due notes nothing, and no clean one is such.
abbrev pub CheckpointNotes : User → (clean : Bool) → Result Checkpointed StoreNo → List BookEntry → Type 0
CheckpointNotes user clean (Ok (Done epoch)) entries = entries ≡ CheckpointEnded user.pid true clean ∷ []
CheckpointNotes user clean (Ok Skipped) entries = entries ≡ CheckpointEnded user.pid false clean ∷ []
CheckpointNotes user clean (Ok (NotDue behind)) entries = (clean ≡ false) × (behind < due_bytes) × (entries ≡ [])
CheckpointNotes user clean (Err (Stale mine found)) entries = MayBeOver user × (entries ≡ [])
CheckpointNotes user clean (Err Disk) entries = NotesFault user.pid entries
CheckpointNotes user clean (Err (Broken since)) entries = RepeatsFault user.pid since entries
CheckpointNotes user clean (Err (Full need room)) entries = (room ≡ 0) × (entries ≡ [])
CheckpointNotes user clean (Err (Redo fault)) entries = ⊥
CheckpointNotes user clean (Err NoMemory) entries = entries ≡ []

-- what the one step of a checkpoint is that came to this
abbrev pub step_of : Checkpointed → Stepping
step_of (Done epoch) = steps.Done epoch
step_of Skipped = steps.Skipped
step_of (NotDue behind) = steps.NotDue behind

-- A step notes what the checkpoint notes that comes to its end by it, and before that nothing.
abbrev pub StepNotes : User → Result Stepping StoreNo → List BookEntry → Type 0
StepNotes user (Ok steps.More) entries = entries ≡ []
StepNotes user (Ok (steps.Done epoch)) entries = CheckpointNotes user false (Ok (Done epoch)) entries
StepNotes user (Ok steps.Skipped) entries = CheckpointNotes user false (Ok Skipped) entries
StepNotes user (Ok (steps.NotDue behind)) entries = CheckpointNotes user false (Ok (NotDue behind)) entries
StepNotes user (Err refusal) entries = CheckpointNotes user false (Err refusal) entries

abbrev pub LeaveNotes : User → List BookEntry → Type 0
LeaveNotes user entries = (entries ≡ Detached user.pid ∷ []) ⊎ (MayBeOver user × (entries ≡ []))
