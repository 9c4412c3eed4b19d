-- A query step by step: what is answered and noted for it, and what waiting for it can give.
use Rattle.std.specs.{Prelude.{◌≡◌, ◌≢◌, ◌*◌, ◌++◌, ℕ, List, [], ◌∷◌, All, Option, None, Result, Ok, Err, IfOk, IfErr}, List.flat_map, Str.IsUtf8}
use Rattle.pm_query.specs.{pm_sql.{declared.stmt.Stmt.Stmt, Statements.IsQueryText}, declared.{book.BookEntry.{BookEntry, TheVariants.Released}, store.{Staged.Staged, StoreNo.StoreNo}}, Calls.{User, MayBeOver, NotesFault, user_of}, Limits.HasShortValues}
use Rattle.pm_query.specs.declared.store.StoreNo.TheVariants as nos
use Rattle.pm_query.specs.declared.store.Store as Store
use Rattle.pm_child_life.specs.{Life.{Told, Cancel}, Attention.{Attention, HasAsked, HasGained, GivenSince, GivenNoMore}}
use Rattle.pm_startup.specs.pm_wire.declared.condition.Fixed.TheVariants as fixes
use Rattle.pm_startup.specs.pm_wire.{Conditions.{error, fixed_message}, Backend.{BackMessage, Ready}}
use Rattle.pm_session_exchange.specs.{declared.{ending.Cause.{Cause, TheVariants.{Panicked, ToldToTerminate, ToldToQuit, Killed, Overtaken}}, release.{Answer.Answer, Awaited.Awaited}, query.Slept.Slept}, Queries.{IsReadAs, IsUnreleased, TurnNotes, IsCancelledTurn, SleptWhole, HasWaited, Sleeps}, Sent.{Turn, Ran, Faulted, NotUtf8, Cancelled, LogIsFull, Memory, item_messages, fault_state, turn_messages}, Moments.{IsHeeded, IsSignal}, Room.IsFaultString}
use Rattle.pm_session_exchange.specs.declared.release.Answer.TheVariants as answers
use Rattle.pm_session_exchange.specs.declared.release.Awaited.TheVariants as waits
use Rattle.pm_session_exchange.specs.declared.query.Slept.TheVariants as sleeps

-- ---- answers

-- how an answer counts among the turns
abbrev pub turn_of : Answer → Turn
turn_of (answers.Ran reply) = Ran reply
turn_of (answers.Faulted fault message) = Faulted fault
turn_of answers.NotUtf8 = NotUtf8
turn_of answers.Cancelled = Cancelled
turn_of answers.LogIsFull = LogIsFull
turn_of answers.Memory = Memory

-- the messages that say it
abbrev pub piece_of : Answer → List BackMessage
piece_of (answers.Ran reply) = flat_map item_messages reply ++ Ready ∷ []
piece_of (answers.Faulted fault message) = error (fault_state fault) message None ∷ Ready ∷ []
piece_of answers.NotUtf8 = fixed_message fixes.NotUtf8 ∷ Ready ∷ []
piece_of answers.Cancelled = fixed_message fixes.Canceled ∷ Ready ∷ []
piece_of answers.LogIsFull = fixed_message fixes.LogFull ∷ Ready ∷ []
piece_of answers.Memory = fixed_message fixes.ErrorMemory ∷ Ready ∷ []

-- each of its messages can be written, and fits the outbox
abbrev pub IsSayable : Answer → Type 0
IsSayable (answers.Ran reply) = All HasShortValues reply
IsSayable (answers.Faulted fault message) = IsFaultString message
IsSayable _ = Unit {0}

-- an answer says what its turn is to say, and one that was cancelled was told to be since its query was taken
pub record IsFit (text : List ℕ) (answer : Answer) (before now : Option Told) : Type 0 where
  pub sayable : IsSayable answer
  pub piece : piece_of answer ≡ turn_messages text (turn_of answer)
  pub read : IsReadAs text (turn_of answer)
  pub cancelled : IsCancelledTurn (turn_of answer) → GivenSince Cancel before now

-- ---- what is noted

-- what a query that was in progress has noted, when this ends the session
abbrev pub EndNotes : User → List ℕ → Cause → List BookEntry → Type 0
EndNotes user text Panicked entries =
    (asked : List BookEntry) × (broke : List BookEntry) × IsUnreleased user.pid text asked × NotesFault user.pid broke × (entries ≡ asked ++ broke)
EndNotes user text ToldToTerminate entries = entries ≡ []
EndNotes user text (ToldToQuit reason) entries = IsUnreleased user.pid text entries
EndNotes user text Killed entries = IsUnreleased user.pid text entries
EndNotes user text Overtaken entries = MayBeOver user × IsUnreleased user.pid text entries
EndNotes user text _ entries = ⊥

-- a query has this answer, or this ends the session before
abbrev pub AnswerNotes : User → List ℕ → Result Answer Cause → List BookEntry → Type 0
AnswerNotes user text (Ok answer) entries = TurnNotes user.pid text (turn_of answer) entries
AnswerNotes user text (Err cause) entries = EndNotes user text cause entries

-- an answer fits any text that is UTF-8 and spells the script
abbrev pub FitsScript : List Stmt → (before now : Option Told) → Answer → Type 0
FitsScript script before now answer = (text : List ℕ) → IsUtf8 text → IsQueryText text script → IsFit text answer before now

-- the same of any text that spells the script
abbrev pub ScriptNotes : User → List Stmt → Result Answer Cause → List BookEntry → Type 0
ScriptNotes user script result entries = (text : List ℕ) → IsQueryText text script → AnswerNotes user text result entries

-- a run isn't refused by a redo
abbrev pub CanRefuseRun : StoreNo → Type 0
CanRefuseRun (nos.Redo fault) = ⊥
CanRefuseRun _ = Unit {0}

-- what a refused run comes to
abbrev pub refusal_of : StoreNo → Result Answer Cause
refusal_of (nos.Stale mine found) = Err Overtaken
refusal_of nos.Disk = Err Panicked
refusal_of (nos.Broken since) = Err Panicked
refusal_of (nos.Full need room) = Ok answers.LogIsFull
refusal_of (nos.Redo fault) = Err Panicked
refusal_of nos.NoMemory = Ok answers.Memory

-- and what a release or a flush comes to that the store refuses
abbrev pub no_release : StoreNo → Result Awaited Cause
no_release (nos.Stale mine found) = Err Overtaken
no_release nos.NoMemory = Ok waits.NoMemory
no_release _ = Err Panicked

-- neither a release nor a flush is refused for want of room or by a redo
abbrev pub CanEndWait : StoreNo → Type 0
CanEndWait (nos.Full need room) = ⊥
CanEndWait (nos.Redo fault) = ⊥
CanEndWait _ = Unit {0}

-- what is noted from staging on, until the log is flushed up to the front, or this ends the wait
abbrev pub WaitNotes : User → (front : ℕ) → Result Awaited Cause → List BookEntry → Type 0
WaitNotes user front (Ok waits.Flushed) entries = (tick : ℕ) × (entries ≡ Released user.pid front tick ∷ [])
WaitNotes user front (Ok waits.NoMemory) entries = entries ≡ []
WaitNotes user front (Err Panicked) entries = NotesFault user.pid entries
WaitNotes user front (Err (ToldToQuit reason)) entries = entries ≡ []
WaitNotes user front (Err Killed) entries = entries ≡ []
WaitNotes user front (Err Overtaken) entries = MayBeOver user × (entries ≡ [])
WaitNotes user front (Err _) entries = ⊥

-- the answer is the staged reply, released, or memory was short
abbrev pub ReleaseNotes : User → Staged → Result Answer Cause → List BookEntry → Type 0
ReleaseNotes user staged (Ok (answers.Ran reply)) entries = (reply ≡ staged.reply) × WaitNotes user staged.front (Ok waits.Flushed) entries
ReleaseNotes user staged (Ok answers.Memory) entries = WaitNotes user staged.front (Ok waits.NoMemory) entries
ReleaseNotes user staged (Ok _) entries = ⊥
ReleaseNotes user staged (Err cause) entries = WaitNotes user staged.front (Err cause) entries

-- ---- signals

-- A sleep asked for signals, once at least, and up to its end no cancel was given.
pub record SleepsUncancelled (before now : Option Told) : Type 0 where
  pub woken : Option Told
  pub asked : HasAsked 1 before woken
  pub uncancelled : GivenNoMore Cancel before woken
  pub later : HasAsked 0 woken now
  pub gained : HasGained woken now

-- all of the time has passed and no cancel was given, or a cancel or an end was
abbrev pub SleepGoes : (ℕ → Type 0) → (seconds : ℕ) → Result Slept Cause → (before now : Attention) → Type 0
SleepGoes gives seconds (Ok sleeps.Whole) before now = HasWaited gives (1000 * seconds) × GivenNoMore Cancel before.told now.told
SleepGoes gives seconds (Ok sleeps.Cancelled) before now = GivenSince Cancel before.told now.told
SleepGoes gives seconds (Err cause) before now = IsSignal cause × IsHeeded cause now

-- an answer fits its text, has slept as long as this says, and was given no cancel up to the end of its sleep
abbrev pub AnswerFits : List ℕ → Result Answer Cause → (before now : Option Told) → Type 0
AnswerFits text result before now = IfOk result (λ answer. IsFit text answer before now)

abbrev pub AnswerSleeps : (gives : ℕ → Type 0) → List ℕ → Result Answer Cause → Type 0
AnswerSleeps gives text result = IfOk result (λ answer. Sleeps gives text (turn_of answer))

abbrev pub AnswerUncancelled : Result Answer Cause → (before now : Option Told) → Type 0
AnswerUncancelled result before now = IfOk result (λ answer. SleptWhole (turn_of answer) → SleepsUncancelled before now)

-- ---- the generation

-- who ends as overtaken has last met the store in another generation than its own
abbrev pub IsOvertakenBy : (met generation : ℕ) → Cause → Type 0
IsOvertakenBy met generation cause = cause ≡ Overtaken → generation ≢ met

-- it came to an answer; or where it ended as overtaken, it has last met another generation
abbrev pub OvertakesBy : {T : Type 0} → (met generation : ℕ) → Result T Cause → Type 0
OvertakesBy met generation result = IfErr result (IsOvertakenBy met generation)

-- ---- of a store, by a pass of its own

module _ {S P : Type 0} (its : Store.Ghosts S P) where
  -- its own calls have noted entries of this kind for whose pass it is
  abbrev pub Notes : P → (User → List BookEntry → Type 0) → (before now : S) → Type 0
  Notes pass kind before now = (entries : List BookEntry) × its.notes entries before now × kind (user_of (its.stamp before) (its.view pass)) entries

  -- it is the same child's as before
  abbrev pub KeepsUser : (before : S) → (pass_before : P) → (now : S) → (pass_now : P) → Type 0
  KeepsUser before pass_before now pass_now = user_of (its.stamp now) (its.view pass_now) ≡ user_of (its.stamp before) (its.view pass_before)
