-- Queries one after the other, up to the end of a session.
use Rattle.std.proofs.Common.{◌≡◌, ℕ, ◌*◌, List, [], ◌∷◌, ◌++◌, Option, Result, Ok, Err, IfOk, subst}
use Rattle.pm_query.specs.{pm_sql.{declared.stmt.Stmt.Stmt, Statements.IsQueryText}, declared.book.BookEntry.{BookEntry, TheVariants.Released}}
use Rattle.pm_child_life.specs.Life.{Told}
use Rattle.pm_session_exchange.specs.{declared.{ending.Cause.Cause, release.Answer.Answer}, Sent.{Turn, Ran, Faulted, NotUtf8, Cancelled, LogIsFull, Memory}, Queries.{TurnNotes, Sleeps, SleptWhole, HasSleptFor, HasWaited, seconds_slept}, Answers.{turn_of, IsFit}}

-- ---- lists of turns

-- a query for which nothing was noted hasn't run
pub unnoted : (pid : ℕ) (text : List ℕ) (turn : Turn) → TurnNotes pid text turn [] → SleptWhole turn → ⊥
unnoted pid text (Ran reply) notes whole = none_released notes.answered pid notes.front notes.tick notes.entries_are
  where
    none_released : (entries : List BookEntry) (pid front tick : ℕ) → [] ≡ entries ++ Released pid front tick ∷ [] → ⊥
    none_released [] pid front tick e = cc
    none_released (entry ∷ entries) pid front tick e = cc
unnoted pid text (Faulted fault) notes whole = whole
unnoted pid text NotUtf8 notes whole = whole
unnoted pid text Cancelled notes whole = whole
unnoted pid text LogIsFull notes whole = cc
unnoted pid text Memory notes whole = whole

pub sleeps_unnoted : (gives : ℕ → Type 0) (pid : ℕ) (text : List ℕ) (turn : Turn) → TurnNotes pid text turn [] → Sleeps gives text turn
sleeps_unnoted gives pid text turn notes whole = absurd (unnoted pid text turn notes whole)

-- a script that slept is that of the text
pub sleeps_spelled : (gives : ℕ → Type 0) (text : List ℕ) (script : List Stmt) (turn : Turn) → IsQueryText text script → HasSleptFor gives turn script → Sleeps gives text turn
sleeps_spelled gives text script turn query slept whole = (script, query, slept whole)

-- once all of the time has passed, whatever its turn
pub slept_for : (gives : ℕ → Type 0) (turn : Turn) (script : List Stmt) → HasWaited gives (1000 * seconds_slept script) → HasSleptFor gives turn script
slept_for gives turn script waited whole = waited

pub all_slept : (gives : ℕ → Type 0) (script : List Stmt) (result : Result Answer Cause) → HasWaited gives (1000 * seconds_slept script) → IfOk result (λ answer. HasSleptFor gives (turn_of answer) script)
all_slept gives script (Ok answer) waited = slept_for gives (turn_of answer) script waited
all_slept gives script (Err cause) waited = tt

pub all_spelled : (gives : ℕ → Type 0) (text other : List ℕ) (script : List Stmt) (result : Result Answer Cause) → text ≡ other → IsQueryText text script → IfOk result (λ answer. HasSleptFor gives (turn_of answer) script)
    → IfOk result (λ answer. Sleeps gives other (turn_of answer))
all_spelled gives text other script (Ok answer) same query slept = subst (λ (bytes : List ℕ). Sleeps gives bytes (turn_of answer)) same (sleeps_spelled gives text script (turn_of answer) query slept)
all_spelled gives text other script (Err cause) same query slept = tt

-- ---- one query

-- an answer that fits a text fits the same bytes
pub fit_as : (text other : List ℕ) (answer : Answer) → text ≡ other → ((before now : Option Told) → IsFit text answer before now) → (before now : Option Told) → IsFit other answer before now
fit_as text other answer same fits before now = subst (λ (bytes : List ℕ). IsFit bytes answer before now) same (fits before now)
