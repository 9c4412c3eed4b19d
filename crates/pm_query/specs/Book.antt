-- Which books are legal: what has to hold of the entries before an entry, for each kind of entry.
use Rattle.std.specs.{Prelude.{◌≡◌, ◌⊎◌, ℕ, ◌+◌, ◌-◌, ◌^◌, ◌<◌, ◌≤◌, max, cond, nat_eq, Bool, true, false, ◌&&◌, List, [], ◌∷◌, ◌++◌, fold, Any, All, Option, None, Some, is_some, IsSome, IsTrue}, List.{Contains, list_any}}
use Rattle.pm_sql.specs.{pm_rows.{Fold.RowMap, Limits.max_file_bytes, declared.commit.Change.Change, Standing.Standing}, Limits.is_writing, declared.stmt.Stmt.Stmt}
use Rattle.pm_sql.specs.pm_rows.LogSize as log
use Rattle.pm_query.specs.{declared.{item.Item.Item, book.BookEntry.{BookEntry, TheVariants.{Opened, Redone, Attached, Answered, Released, Detached, Gone, CheckpointEnded, Broke, LogFull}}}, Answer.{items_of, commit_of}, History.{History, beginning, count_of, rows_of, with_commit, acknowledged, kept, number}}

-- What the first redo finds: the rows, the number of commits that left them, the bytes of the log file up to and with
-- its closed gate, and the disk's count of faults as it was handed in.
pub record Base : Type 0 where
  pub rows : RowMap
  pub count : ℕ
  pub bytes : ℕ
  pub faults : ℕ

abbrev pub standing_of : Base → Standing
standing_of base = record { rows = base.rows; count = base.count }

-- ---- what the entries so far say of the present generation

abbrev pub generation_after : ℕ → BookEntry → ℕ
generation_after before (Opened generation) = before + 1
generation_after before _ = before

-- its number, or 0 before the first
abbrev pub generation_of : List BookEntry → ℕ
generation_of book = fold generation_after 0 book

abbrev pub present_after : List BookEntry → BookEntry → List BookEntry
present_after entries (Opened generation) = []
present_after entries entry = entries ++ entry ∷ []

-- its entries
abbrev pub present : List BookEntry → List BookEntry
present book = fold present_after [] book

abbrev pub kept_after : Option ℕ → BookEntry → Option ℕ
kept_after before (Opened generation) = None
kept_after None (Redone pid generation count) = Some count
kept_after before _ = before

-- the number that its first redo has kept, if there was one
abbrev pub kept_by_redo : List BookEntry → Option ℕ
kept_by_redo book = fold kept_after None book

abbrev pub fault_here : Option (List (ℕ × ℕ)) → BookEntry → Option (List (ℕ × ℕ))
fault_here here (Opened generation) = None
fault_here None (Redone pid generation count) = Some []
fault_here (Some faults) (Broke pid since count) = Some (faults ++ (since, count) ∷ [])
fault_here here _ = here

-- the faults of the disk after that redo, if there was one: the tick of each, and the disk's count of them from then on
abbrev pub faults_here : List BookEntry → Option (List (ℕ × ℕ))
faults_here book = fold fault_here None book

abbrev pub ends_checkpoint : BookEntry → Bool
ends_checkpoint (CheckpointEnded pid done clean) = true
ends_checkpoint _ = false

-- whether a checkpoint has come to its end in it
abbrev pub has_checkpoint : List BookEntry → Bool
has_checkpoint book = list_any ends_checkpoint (present book)

abbrev pub ends_cleanly : BookEntry → Bool
ends_cleanly (CheckpointEnded pid done clean) = done && clean
ends_cleanly _ = false

-- whether one was made that leaves the log clean: then nothing more is committed
abbrev pub is_closed : List BookEntry → Bool
is_closed book = list_any ends_cleanly (present book)

-- ---- what they say of all generations

abbrev pub faults_after : List (ℕ × ℕ) → BookEntry → List (ℕ × ℕ)
faults_after faults (Broke pid since count) = faults ++ (since, count) ∷ []
faults_after faults _ = faults

-- all faults of the disk
abbrev pub faults_of : List BookEntry → List (ℕ × ℕ)
faults_of book = fold faults_after [] book

abbrev pub times_after : ℕ → ℕ → BookEntry → ℕ
times_after who times (Attached pid generation) = cond (nat_eq who pid) (times + 1) times
times_after who times (Detached pid) = cond (nat_eq who pid) (times - 1) times
times_after who times (Gone pid) = cond (nat_eq who pid) 0 times
times_after who times _ = times

-- how often a child is attached
abbrev pub times_attached : List BookEntry → ℕ → ℕ
times_attached book who = fold (times_after who) 0 book

abbrev pub tick_after : ℕ → BookEntry → ℕ
tick_after latest (Answered pid script reply commit front tick) = max latest tick
tick_after latest (Released pid front tick) = max latest tick
tick_after latest _ = latest

-- the latest count of the disk's calls in an entry
abbrev pub last_tick : List BookEntry → ℕ
last_tick book = fold tick_after 0 book

-- the bytes that a commit of its own takes in the log; one without changes isn't written
abbrev pub need_of : List Change → ℕ
need_of [] = 0
need_of (change ∷ changes) = log.need_of ((change ∷ changes) ∷ [])

abbrev pub need_after : ℕ → BookEntry → ℕ
need_after total (Answered pid script reply commit front tick) = total + need_of commit
need_after total _ = total

-- the bytes that all answered commits take
abbrev pub needs_of : List BookEntry → ℕ
needs_of book = fold need_after 0 book

-- ---- the history

-- How far a book has come: its history, and the number that the present generation's first redo has kept, if there was one.
pub record Course : Type 0 where
  pub history : History
  pub redone : Option ℕ

-- a redo that repeats one of its generation changes nothing
abbrev pub history_after : Option ℕ → History → BookEntry → History
history_after redone history (Answered pid script reply commit front tick) = with_commit history commit
history_after redone history (Released pid front tick) = acknowledged history front
history_after None history (Redone pid generation count) = kept history count
history_after redone history _ = history

abbrev pub course_after : Course → BookEntry → Course
course_after course entry = record { history = history_after course.redone course.history entry; redone = kept_after course.redone entry }

abbrev pub course_of : Base → List BookEntry → Course
course_of base book = fold course_after (record { history = beginning (standing_of base); redone = None }) book

-- the history after the entries
abbrev pub history_of : Base → List BookEntry → History
history_of base book = (course_of base book).history

-- ---- which entry may come next

-- redo has ended in this generation
abbrev pub IsRedone : List BookEntry → Type 0
IsRedone before = IsSome (kept_by_redo before)

-- the child is attached
abbrev pub IsAttached : List BookEntry → ℕ → Type 0
IsAttached before pid = 1 ≤ times_attached before pid

-- the next generation, where nobody is attached
pub record MayOpen (before : List BookEntry) (generation : ℕ) : Type 0 where
  pub next : generation ≡ generation_of before + 1
  pub empty : (pid : ℕ) → times_attached before pid ≡ 0

-- the present generation, which has begun
pub record MayAttach (before : List BookEntry) (generation : ℕ) : Type 0 where
  pub begun : 1 ≤ generation
  pub present : generation ≡ generation_of before

-- A repeated redo keeps what the first has kept. The first keeps every acknowledged commit, and no more than there are;
-- no checkpoint of its generation stands before it.
abbrev pub KeepsNumber : List BookEntry → Option ℕ → History → ℕ → Type 0
KeepsNumber before (Some first) history count = count ≡ first
KeepsNumber before None history count = (history.acked ≤ count) × (count ≤ count_of history) × (has_checkpoint before ≡ false)

-- a redo, of the present generation, by a child that is attached
pub record MayRedo (base : Base) (before : List BookEntry) (pid generation count : ℕ) : Type 0 where
  pub present : generation ≡ generation_of before
  pub attached : IsAttached before pid
  pub number : KeepsNumber before (kept_by_redo before) (history_of base before) count

-- A script that writes nothing has the same reply on the rows of this number, which is none before what is acknowledged.
pub record ReadsEarlier (history : History) (script : List Stmt) (reply : List Item) (front : ℕ) : Type 0 where
  pub reads : list_any is_writing script ≡ false
  pub acked : history.acked ≤ front
  pub within : front ≤ count_of history
  pub same : reply ≡ items_of (number history front).rows script

-- The front of an answer is the number of all commits, with its own, or an earlier one that shows the same.
abbrev pub AnswersAt : History → List Stmt → List Item → List Change → ℕ → Type 0
AnswersAt history script reply commit front =
    (front ≡ count_of (with_commit history commit)) ⊎ ReadsEarlier history script reply front

-- An answer, after a redo, to a child that is attached: reply and commit are those of the script on the rows here. After
-- a checkpoint that left the log clean it commits nothing.
pub record MayAnswer (base : Base) (before : List BookEntry) (pid : ℕ) (script : List Stmt) (reply : List Item) (commit : List Change) (front tick : ℕ) : Type 0 where
  pub redone : IsRedone before
  pub attached : IsAttached before pid
  pub reply_is : reply ≡ items_of (rows_of (history_of base before)) script
  pub commit_is : commit ≡ commit_of (rows_of (history_of base before)) script
  pub front_is : AnswersAt (history_of base before) script reply commit front
  pub in_time : last_tick before ≤ tick
  pub unclosed : IsTrue (is_closed before) → commit ≡ []

-- the entry answers a script of this child, up to this front or a later one
abbrev pub AnswersUpTo : ℕ → ℕ → BookEntry → Type 0
AnswersUpTo who upto (Answered pid script reply commit front tick) = (pid ≡ who) × (upto ≤ front)
AnswersUpTo who upto _ = ⊥

-- a release, to a child that is attached and has an answer up to this front in this generation
pub record MayRelease (before : List BookEntry) (pid front tick : ℕ) : Type 0 where
  pub attached : IsAttached before pid
  pub answered : Any (AnswersUpTo pid front) (present before)
  pub in_time : last_tick before ≤ tick

-- a checkpoint, by a child that is attached: it is made exactly where redo has ended
pub record MayEndCheckpoint (before : List BookEntry) (pid : ℕ) (done : Bool) : Type 0 where
  pub attached : IsAttached before pid
  pub made : done ≡ is_some (kept_by_redo before)

-- A fault after the generation's first redo repeats one that stands there already, where there is one. Any other has a
-- count that is greater than the base's and than that of every fault before, or the last number.
abbrev pub TellsFault : Base → List BookEntry → Option (List (ℕ × ℕ)) → ℕ → ℕ → Type 0
TellsFault base before (Some (fault ∷ faults)) since count = Contains (fault ∷ faults) (since, count)
TellsFault base before _ since count = ((base.faults < count) × All (λ fault. fault.1 < count) (faults_of before)) ⊎ (count ≡ 2 ^ 64 - 1)

-- a fault of the disk, met by a child that is attached
pub record MayBreak (base : Base) (before : List BookEntry) (pid since count : ℕ) : Type 0 where
  pub attached : IsAttached before pid
  pub fault : TellsFault base before (faults_here before) since count

-- A log without room, after a redo, for the commit of this script on the rows here: the numbers are spent, or the log
-- is as long as it may be, but for 1,024 bytes.
pub record MayBeFull (base : Base) (before : List BookEntry) (pid : ℕ) (script : List Stmt) (need room : ℕ) : Type 0 where
  pub redone : IsRedone before
  pub attached : IsAttached before pid
  pub need_is : need ≡ need_of (commit_of (rows_of (history_of base before)) script)
  pub above : room < need
  pub cause : ((count_of (history_of base before) ≡ 2 ^ 64 - 1) × (room ≡ 0)) ⊎ (max_file_bytes ≤ room + base.bytes + 1024 + needs_of before)

abbrev pub MayFollow : Base → List BookEntry → BookEntry → Type 0
MayFollow base before (Opened generation) = MayOpen before generation
MayFollow base before (Attached pid generation) = MayAttach before generation
MayFollow base before (Redone pid generation count) = MayRedo base before pid generation count
MayFollow base before (Answered pid script reply commit front tick) = MayAnswer base before pid script reply commit front tick
MayFollow base before (Released pid front tick) = MayRelease before pid front tick
MayFollow base before (Detached pid) = IsAttached before pid
MayFollow base before (Gone pid) = Unit {0}
MayFollow base before (CheckpointEnded pid done clean) = MayEndCheckpoint before pid done
MayFollow base before (Broke pid since count) = MayBreak base before pid since count
MayFollow base before (LogFull pid script need room) = MayBeFull base before pid script need room

-- each of these entries may follow those before it
abbrev pub MayGoOn : Base → List BookEntry → List BookEntry → Type 0
MayGoOn base before [] = Unit {0}
MayGoOn base before (entry ∷ behind) = MayFollow base before entry × MayGoOn base (before ++ entry ∷ []) behind

-- children are gone, and then a generation opens
abbrev pub BeginsRenewal : List BookEntry → Type 0
BeginsRenewal (Gone pid ∷ behind) = BeginsRenewal behind
BeginsRenewal (Opened generation ∷ behind) = Unit {0}
BeginsRenewal _ = ⊥

-- so it is after each child that is gone
abbrev pub RenewsBehindGone : List BookEntry → Type 0
RenewsBehindGone [] = Unit {0}
RenewsBehindGone (Gone pid ∷ behind) = BeginsRenewal behind × RenewsBehindGone behind
RenewsBehindGone (_ ∷ behind) = RenewsBehindGone behind

-- A legal book, from its first entry on.
pub record IsLegal (base : Base) (book : List BookEntry) : Type 0 where
  pub entries : MayGoOn base [] book
  pub renewals : RenewsBehindGone book
