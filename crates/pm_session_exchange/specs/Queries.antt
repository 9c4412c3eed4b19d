-- How a query was answered: what is noted for it, what its text is read as, and how long it slept.
use Rattle.std.specs.{Prelude.{◌≡◌, ◌≢◌, ◌⊎◌, ℕ, ◌+◌, ◌-◌, ◌*◌, ◌^◌, ◌≤◌, min, List, [], ◌∷◌, ◌++◌}, Str.IsUtf8}
use Rattle.pm_sql.specs.{declared.stmt.Stmt.Stmt, Statements.IsQueryText, Limits.sleep_seconds, Faults.IsFaultOf, pm_rows.declared.commit.Change.Change}
use Rattle.pm_sql.specs.declared.query.SqlFault.TheVariants as texts
use Rattle.pm_query.specs.{declared.{item.Item.Item, book.BookEntry.{BookEntry, TheVariants.{Released, LogFull}}}, Calls.NotesAnswer}
use Rattle.pm_session_exchange.specs.Sent.{Turn, Ran, Faulted, NotUtf8, Cancelled, LogIsFull, Memory}

-- ---- turns

-- an answer to this text, not released; or nothing
abbrev pub IsUnreleased : ℕ → List ℕ → List BookEntry → Type 0
IsUnreleased pid text entries =
    (entries ≡ [])
    ⊎ ((script : List Stmt) × (reply : List Item) × (front : ℕ) × (commit : List Change) × IsQueryText text script × NotesAnswer pid script reply front commit entries)

-- an answer to this text, and its release
pub record IsReleased (pid : ℕ) (text : List ℕ) (reply : List Item) (entries : List BookEntry) : Type 0 where
  pub script : List Stmt
  pub commit : List Change
  pub front : ℕ
  pub tick : ℕ
  pub answered : List BookEntry
  pub query : IsQueryText text script
  pub answer : NotesAnswer pid script reply front commit answered
  pub entries_are : entries ≡ answered ++ Released pid front tick ∷ []

abbrev pub TurnNotes : ℕ → List ℕ → Turn → List BookEntry → Type 0
TurnNotes pid text (Ran reply) entries = IsReleased pid text reply entries
TurnNotes pid text (Faulted fault) entries = (fault ≢ texts.NoMemory) × IsFaultOf text fault × (entries ≡ [])
TurnNotes pid text NotUtf8 entries = ¬ (IsUtf8 text) × (entries ≡ [])
TurnNotes pid text Cancelled entries = entries ≡ []
TurnNotes pid text LogIsFull entries = (script : List Stmt) × (need : ℕ) × (room : ℕ) × IsQueryText text script × (entries ≡ LogFull pid script need room ∷ [])
TurnNotes pid text Memory entries =
    IsUnreleased pid text entries ⊎ ((script : List Stmt) × (need : ℕ) × (room : ℕ) × IsQueryText text script × (entries ≡ LogFull pid script need room ∷ []))

-- ---- causes

-- the clock gave two moments so far apart, or it stands at its last
pub record HasWaited (gives : ℕ → Type 0) (milliseconds : ℕ) : Type 0 where
  pub first : ℕ
  pub last : ℕ
  pub from : gives first
  pub to : gives last
  pub apart : (first + milliseconds ≤ last) ⊎ (last ≡ 2 ^ 64 - 1)

-- the seconds that statements sleep, as a number of 64 bits
abbrev pub seconds_slept : List Stmt → ℕ
seconds_slept script = min (sleep_seconds script) (2 ^ 64 - 1)

-- its sleep went to its end, and its script was run
abbrev pub SleptWhole : Turn → Type 0
SleptWhole (Ran reply) = Unit {0}
SleptWhole LogIsFull = Unit {0}
SleptWhole _ = ⊥

-- for a script that was run, all its seconds have passed
abbrev pub HasSleptFor : (ℕ → Type 0) → Turn → List Stmt → Type 0
HasSleptFor gives turn script = SleptWhole turn → HasWaited gives (1000 * seconds_slept script)

-- the same of the text that spells it
abbrev pub Sleeps : (ℕ → Type 0) → List ℕ → Turn → Type 0
Sleeps gives text turn = SleptWhole turn → (script : List Stmt) × IsQueryText text script × HasWaited gives (1000 * seconds_slept script)

abbrev pub IsCancelledTurn : Turn → Type 0
IsCancelledTurn Cancelled = Unit {0}
IsCancelledTurn _ = ⊥

-- ---- texts

-- Only bytes that are UTF-8 are looked at further, and only a script is cancelled.
abbrev pub IsReadAs : List ℕ → Turn → Type 0
IsReadAs text NotUtf8 = Unit {0}
IsReadAs text Cancelled = IsUtf8 text × ((script : List Stmt) × IsQueryText text script)
IsReadAs text _ = IsUtf8 text
