-- What a child notes that asks a store one thing, or tends its log.
use Rattle.std.specs.Prelude.{◌≡◌, ◌⊎◌, ℕ, Bool, ◌∷◌, ◌++◌, List, Option, None, Some, Result, Ok, Err}
use Rattle.pm_query.specs.{pm_sql.declared.stmt.Stmt.Stmt, declared.{item.Item.Item, book.BookEntry.{BookEntry, TheVariants.Redone}, store.{Staged.Staged, Seen.{Seen, TheVariants.{Released, NotFlushed}}, StoreNo.StoreNo}}, Calls.{CheckpointNotes, EnterNotes, FlushNotes, LeaveNotes, NotesStaged, RedoNotes, RunNotes, SeenNotes, User}}
use Rattle.pm_rows_tests.specs.declared.tending.Tended.{Tended}

-- an answer, and a look whether it may be sent
pub record AnsweredThen (user : User) (script : List Stmt) (staged : Staged) (looked : Result Seen StoreNo) (entries : List BookEntry) : Type 0 where
  pub first : List BookEntry
  pub second : List BookEntry
  pub answer : NotesStaged user.pid script staged first
  pub look : SeenNotes user staged.front looked second
  pub entries_are : entries ≡ first ++ second

-- a reply that was released, one that wasn't yet, or a refusal of either call
abbrev pub ReplyNotes : User → List Stmt → Result (Option (List Item)) StoreNo → List BookEntry → Type 0
ReplyNotes user script (Ok (Some reply)) entries = (staged : Staged) × (staged.reply ≡ reply) × AnsweredThen user script staged (Ok Released) entries
ReplyNotes user script (Ok None) entries = (staged : Staged) × (flushed : ℕ) × AnsweredThen user script staged (Ok (NotFlushed flushed)) entries
ReplyNotes user script (Err refusal) entries = RunNotes user script (Err refusal) entries ⊎ ((staged : Staged) × AnsweredThen user script staged (Err refusal) entries)

-- something between entering and leaving
pub record Visits (user : User) (Asks : List BookEntry → Type 0) (entries : List BookEntry) : Type 0 where
  pub entered : List BookEntry
  pub asked : List BookEntry
  pub left : List BookEntry
  pub enter : EnterNotes {P = ℕ} user (Ok 0) entered
  pub ask : Asks asked
  pub leave : LeaveNotes user left
  pub entries_are : entries ≡ (entered ++ asked) ++ left

-- a visit for a reply, or it wasn't let in
abbrev pub VisitNotes : User → List Stmt → Result (Option (List Item)) StoreNo → List BookEntry → Type 0
VisitNotes user script (Ok answer) entries = Visits user (ReplyNotes user script (Ok answer)) entries
VisitNotes user script (Err refusal) entries = Visits user (ReplyNotes user script (Err refusal)) entries ⊎ EnterNotes {P = ℕ} user (Err refusal) entries

-- the log was read, and these entries stand after that
pub record RedoneThen (user : User) (kept : ℕ) (Then : List BookEntry → Type 0) (entries : List BookEntry) : Type 0 where
  pub behind : List BookEntry
  pub goes_on : Then behind
  pub entries_are : entries ≡ Redone user.pid user.generation kept ∷ behind

-- a redo and a checkpoint, with a flush between them that notes nothing; or a refusal of one of the three
abbrev pub TendNotes : User → Bool → Result Tended StoreNo → List BookEntry → Type 0
TendNotes user clean (Ok tended) entries = RedoneThen user tended.kept (CheckpointNotes user clean (Ok tended.made)) entries
TendNotes user clean (Err refusal) entries =
    RedoNotes user (Err refusal) entries
    ⊎ ((kept : ℕ) × RedoneThen user kept (λ behind. FlushNotes user (Err refusal) behind ⊎ CheckpointNotes user clean (Err refusal) behind) entries)

-- a visit for that, or it wasn't let in
abbrev pub TendingNotes : User → Bool → Result Tended StoreNo → List BookEntry → Type 0
TendingNotes user clean (Ok tended) entries = Visits user (TendNotes user clean (Ok tended)) entries
TendingNotes user clean (Err refusal) entries = Visits user (TendNotes user clean (Err refusal)) entries ⊎ EnterNotes {P = ℕ} user (Err refusal) entries
