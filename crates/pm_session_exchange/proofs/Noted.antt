-- What a query notes, put together from what the store's calls note.
use Rattle.std.proofs.{Common.{◌≡◌, inl, inr, ℕ, List, [], ◌∷◌, ◌++◌, All, Option, Result, Ok, Err, IfOk, refl, sym, ◌∙◌, ap, subst}, lemmas.List.append-nil}
use Rattle.pm_query.{specs.{pm_sql.{declared.stmt.Stmt.Stmt, Statements.IsQueryText}, declared.{item.Item.Item, book.BookEntry.{BookEntry, TheVariants.Released}, store.{Staged.Staged, StoreNo.StoreNo}}, Calls.{User, NotesAnswer, NotesStaged, RunNotes, SeenNotes, FlushNotes}, Limits.HasShortValues}, proofs.NotedLaws.{GoesInTurn, behind_none}}
use Rattle.pm_query.specs.declared.store.StoreNo.TheVariants as nos
use Rattle.pm_session_exchange.specs.{declared.{ending.Cause.{Cause, TheVariants.{Terminated, Cancelling, LinkEnded, LinkFailed, TimedOut, PacketRefused, MessageRefused, DecisionRefused, GateRefused, ShortOfMemory, Panicked, ToldToTerminate, ToldToQuit, Killed, Overtaken}}, release.Answer.Answer}, Queries.IsUnreleased, Answers.{EndNotes, ScriptNotes, CanRefuseRun, refusal_of, no_release, CanEndWait, WaitNotes, ReleaseNotes, FitsScript}, Moments.{IsSignal, IsWaitEnd}}
use Rattle.pm_session_exchange.specs.declared.release.Answer.TheVariants as answers
use Rattle.pm_child_life.{specs.{Life.{Told, Cancel}, Attention.HasAsked}, proofs.AttentionLaws.since_earlier}

-- ---- a release

wait_refused : (user : User) (front : ℕ) (refusal : StoreNo) (entries : List BookEntry) → SeenNotes user front (Err refusal) entries → WaitNotes user front (no_release refusal) entries
wait_refused user front (nos.Stale mine found) entries h = h
wait_refused user front nos.Disk entries h = absurd h
wait_refused user front (nos.Broken since) entries h = (since, h.0, h.1)
wait_refused user front (nos.Full need room) entries h = absurd h
wait_refused user front (nos.Redo fault) entries h = absurd h
wait_refused user front nos.NoMemory entries h = h

pub seen_can : (user : User) (front : ℕ) (refusal : StoreNo) (entries : List BookEntry) → SeenNotes user front (Err refusal) entries → CanEndWait refusal
seen_can user front (nos.Stale mine found) entries h = tt
seen_can user front nos.Disk entries h = tt
seen_can user front (nos.Broken since) entries h = tt
seen_can user front (nos.Full need room) entries h = h
seen_can user front (nos.Redo fault) entries h = h
seen_can user front nos.NoMemory entries h = tt

pub flush_can : (user : User) (refusal : StoreNo) (entries : List BookEntry) → FlushNotes user (Err refusal) entries → CanEndWait refusal
flush_can user (nos.Stale mine found) entries h = tt
flush_can user nos.Disk entries h = tt
flush_can user (nos.Broken since) entries h = tt
flush_can user (nos.Full need room) entries h = h
flush_can user (nos.Redo fault) entries h = h
flush_can user nos.NoMemory entries h = tt

flush_refused : (user : User) (front : ℕ) (refusal : StoreNo) (entries : List BookEntry) → FlushNotes user (Err refusal) entries → WaitNotes user front (no_release refusal) entries
flush_refused user front (nos.Stale mine found) entries h = h
flush_refused user front nos.Disk entries h = h
flush_refused user front (nos.Broken since) entries h = (since, h.0, h.1)
flush_refused user front (nos.Full need room) entries h = absurd h
flush_refused user front (nos.Redo fault) entries h = absurd h
flush_refused user front nos.NoMemory entries h = h

-- a signal ended the wait
pub wait_stops : (user : User) (front : ℕ) (cause : Cause) → IsWaitEnd cause → WaitNotes user front (Err cause) []
wait_stops user front Killed stops = refl
wait_stops user front (ToldToQuit reason) stops = refl
wait_stops user front Terminated stops = absurd stops
wait_stops user front Cancelling stops = absurd stops
wait_stops user front LinkEnded stops = absurd stops
wait_stops user front LinkFailed stops = absurd stops
wait_stops user front TimedOut stops = absurd stops
wait_stops user front (PacketRefused fault) stops = absurd stops
wait_stops user front (MessageRefused fault) stops = absurd stops
wait_stops user front DecisionRefused stops = absurd stops
wait_stops user front (GateRefused refusal) stops = absurd stops
wait_stops user front ShortOfMemory stops = absurd stops
wait_stops user front Panicked stops = absurd stops
wait_stops user front ToldToTerminate stops = absurd stops
wait_stops user front Overtaken stops = absurd stops

-- a refused `seen` after calls that noted nothing
pub wait_ends : {S : Type 0} (notes : List BookEntry → S → S → Type 0) (who user : User) (front : ℕ) (refusal : StoreNo) (before between now : S) → GoesInTurn notes → who ≡ user → notes [] before between
    → (entries : List BookEntry) × notes entries between now × SeenNotes who front (Err refusal) entries
    → (entries : List BookEntry) × notes entries before now × WaitNotes user front (no_release refusal) entries
wait_ends notes who user front refusal before between now in_turn e none call =
    behind_none notes (WaitNotes user front (no_release refusal)) before between now in_turn none
    (call.0, call.1, subst (λ (p : User). WaitNotes p front (no_release refusal) call.0) e (wait_refused who front refusal call.0 call.2))

-- and a refused `flush`
pub flush_ends : {S : Type 0} (notes : List BookEntry → S → S → Type 0) (who user : User) (front : ℕ) (refusal : StoreNo) (before between now : S) → GoesInTurn notes → who ≡ user → notes [] before between
    → (entries : List BookEntry) × notes entries between now × FlushNotes who (Err refusal) entries
    → (entries : List BookEntry) × notes entries before now × WaitNotes user front (no_release refusal) entries
flush_ends notes who user front refusal before between now in_turn e none call =
    behind_none notes (WaitNotes user front (no_release refusal)) before between now in_turn none
    (call.0, call.1, subst (λ (p : User). WaitNotes p front (no_release refusal) call.0) e (flush_refused who front refusal call.0 call.2))

-- an answered one
pub wait_done : {S : Type 0} (notes : List BookEntry → S → S → Type 0) (who user : User) (front : ℕ) (before between now : S) → GoesInTurn notes → who ≡ user → notes [] before between
    → (entries : List BookEntry) × notes entries between now × ((tick : ℕ) × (entries ≡ Released who.pid front tick ∷ []))
    → (entries : List BookEntry) × notes entries before now × ((tick : ℕ) × (entries ≡ Released user.pid front tick ∷ []))
wait_done notes who user front before between now in_turn e none call =
    let told = call.2 in
    behind_none notes (λ es. (tick : ℕ) × (es ≡ Released user.pid front tick ∷ [])) before between now in_turn none
    (call.0, call.1, (told.0, told.1 ∙ ap (λ (p : User). Released p.pid front told.0 ∷ []) e))

-- ---- a run and its release

-- a refused `run`
script_refused : (user : User) (script : List Stmt) (refusal : StoreNo) (entries : List BookEntry) → RunNotes user script (Err refusal) entries → ScriptNotes user script (refusal_of refusal) entries
script_refused user script (nos.Stale mine found) entries means text query = (means.0, inl means.1)
script_refused user script nos.Disk entries (writes, inl fault) text query = ([], entries, inl refl, fault, refl)
script_refused user script nos.Disk entries (writes, inr lost) text query = (lost.answered, lost.broke, inr (script, lost.reply, lost.front, lost.commit, query, lost.answer), lost.fault, lost.entries_are)
script_refused user script (nos.Broken since) entries means text query = ([], entries, inl refl, (since, means.0, means.1), refl)
script_refused user script (nos.Full need room) entries means text query = (script, need, room, query, means.1)
script_refused user script (nos.Redo fault) entries means text query = absurd means
script_refused user script nos.NoMemory entries means text query = inl (inl means)

pub run_can : (user : User) (script : List Stmt) (refusal : StoreNo) (entries : List BookEntry) → RunNotes user script (Err refusal) entries → CanRefuseRun refusal
run_can user script (nos.Stale mine found) entries h = tt
run_can user script nos.Disk entries h = tt
run_can user script (nos.Broken since) entries h = tt
run_can user script (nos.Full need room) entries h = tt
run_can user script (nos.Redo fault) entries h = h
run_can user script nos.NoMemory entries h = tt

pub run_refused : {S : Type 0} (notes : List BookEntry → S → S → Type 0) (user : User) (script : List Stmt) (refusal : StoreNo) (before now : S)
    → (entries : List BookEntry) × notes entries before now × RunNotes user script (Err refusal) entries → (entries : List BookEntry) × notes entries before now × ScriptNotes user script (refusal_of refusal) entries
run_refused notes user script refusal before now call = (call.0, call.1, script_refused user script refusal call.0 call.2)

pub refused_fits : (refusal : StoreNo) (script : List Stmt) (before now : Option Told) → IfOk (refusal_of refusal) (FitsScript script before now)
refused_fits (nos.Stale mine found) script before now = tt
refused_fits nos.Disk script before now = tt
refused_fits (nos.Broken since) script before now = tt
refused_fits (nos.Full need room) script before now = λ text utf8 query. record { sayable = tt; piece = refl; read = utf8; cancelled = λ is. absurd is }
refused_fits (nos.Redo fault) script before now = tt
refused_fits nos.NoMemory script before now = λ text utf8 query. record { sayable = tt; piece = refl; read = utf8; cancelled = λ is. absurd is }

-- an answer that was staged, and after it nothing
unreleased : (pid : ℕ) (text : List ℕ) (script : List Stmt) (staged : Staged) (first second : List BookEntry) → IsQueryText text script → NotesStaged pid script staged first → second ≡ [] → IsUnreleased pid text (first ++ second)
unreleased pid text script staged first second query run none =
    inr (script, staged.reply, staged.front, run.commit, query, subst (λ (es : List BookEntry). NotesAnswer pid script staged.reply staged.front run.commit es) (sym (ap (λ (es : List BookEntry). first ++ es) none ∙ append-nil first)) run.answer)

script_ran : (user : User) (script : List Stmt) (staged : Staged) (result : Result Answer Cause) (first second : List BookEntry) → NotesStaged user.pid script staged first → ReleaseNotes user staged result second → ScriptNotes user script result (first ++ second)
script_ran user script staged (Ok (answers.Ran reply)) first second run released text query = record {
  script = script;
  commit = run.commit;
  front = staged.front;
  tick = released.1.0;
  answered = first;
  query = query;
  answer = subst (λ (items : List Item). NotesAnswer user.pid script items staged.front run.commit first) (sym released.0) run.answer;
  entries_are = ap (λ (es : List BookEntry). first ++ es) released.1.1;
}
script_ran user script staged (Ok answers.Memory) first second run none text query = inl (unreleased user.pid text script staged first second query run none)
script_ran user script staged (Ok (answers.Faulted fault message)) first second run never text query = absurd never
script_ran user script staged (Ok answers.NotUtf8) first second run never text query = absurd never
script_ran user script staged (Ok answers.Cancelled) first second run never text query = absurd never
script_ran user script staged (Ok answers.LogIsFull) first second run never text query = absurd never
script_ran user script staged (Err Panicked) first second run fault text query = (first, second, inr (script, staged.reply, staged.front, run.commit, query, run.answer), fault, refl)
script_ran user script staged (Err (ToldToQuit reason)) first second run none text query = unreleased user.pid text script staged first second query run none
script_ran user script staged (Err Killed) first second run none text query = unreleased user.pid text script staged first second query run none
script_ran user script staged (Err Overtaken) first second run both text query = (both.0, unreleased user.pid text script staged first second query run both.1)
script_ran user script staged (Err ToldToTerminate) first second run never text query = absurd never
script_ran user script staged (Err Terminated) first second run never text query = absurd never
script_ran user script staged (Err Cancelling) first second run never text query = absurd never
script_ran user script staged (Err LinkEnded) first second run never text query = absurd never
script_ran user script staged (Err LinkFailed) first second run never text query = absurd never
script_ran user script staged (Err TimedOut) first second run never text query = absurd never
script_ran user script staged (Err (PacketRefused fault)) first second run never text query = absurd never
script_ran user script staged (Err (MessageRefused fault)) first second run never text query = absurd never
script_ran user script staged (Err DecisionRefused) first second run never text query = absurd never
script_ran user script staged (Err (GateRefused refusal)) first second run never text query = absurd never
script_ran user script staged (Err ShortOfMemory) first second run never text query = absurd never

pub ran : {S : Type 0} (notes : List BookEntry → S → S → Type 0) (who user : User) (script : List Stmt) (staged : Staged) (result : Result Answer Cause) (before between now : S) → GoesInTurn notes → who ≡ user
    → (entries : List BookEntry) × notes entries before between × NotesStaged user.pid script staged entries
    → (entries : List BookEntry) × notes entries between now × ReleaseNotes who staged result entries
    → (entries : List BookEntry) × notes entries before now × ScriptNotes user script result entries
ran notes who user script staged result before between now in_turn e (first, one, run) (second, two, released) =
    (first ++ second, in_turn before between now first second one two, script_ran user script staged result first second run (subst (λ (p : User). ReleaseNotes p staged result second) e released))

-- a released reply shows what the staged one does
pub released_fits : (user : User) (staged : Staged) (result : Result Answer Cause) (entries : List BookEntry) (script : List Stmt) (before now : Option Told) → ReleaseNotes user staged result entries → All HasShortValues staged.reply
    → IfOk result (FitsScript script before now)
released_fits user staged (Ok (answers.Ran reply)) entries script before now released short =
    λ text utf8 query. record { sayable = subst (λ (items : List Item). All HasShortValues items) (sym released.0) short; piece = refl; read = utf8; cancelled = λ is. absurd is }
released_fits user staged (Ok answers.Memory) entries script before now none short = λ text utf8 query. record { sayable = tt; piece = refl; read = utf8; cancelled = λ is. absurd is }
released_fits user staged (Ok (answers.Faulted fault message)) entries script before now never short = absurd never
released_fits user staged (Ok answers.NotUtf8) entries script before now never short = absurd never
released_fits user staged (Ok answers.Cancelled) entries script before now never short = absurd never
released_fits user staged (Ok answers.LogIsFull) entries script before now never short = absurd never
released_fits user staged (Err cause) entries script before now never short = tt

-- a fitting answer fits from an earlier moment on
pub fits_earlier : (m : ℕ) (script : List Stmt) (result : Result Answer Cause) (a b c : Option Told) → HasAsked m a b → IfOk result (FitsScript script b c) → IfOk result (FitsScript script a c)
fits_earlier m script (Err cause) a b c asked fits = tt
fits_earlier m script (Ok answer) a b c asked fits = λ text utf8 query.
    let fit = fits text utf8 query in
    record { sayable = fit.sayable; piece = fit.piece; read = fit.read; cancelled = λ is. since_earlier m Cancel a b c asked (fit.cancelled is) }

-- ---- a query

-- a signal ended the session before the run
pub signalled : (user : User) (text : List ℕ) (cause : Cause) → IsSignal cause → EndNotes user text cause []
signalled user text Killed signal = inl refl
signalled user text (ToldToQuit reason) signal = inl refl
signalled user text ToldToTerminate signal = refl
signalled user text Terminated signal = absurd signal
signalled user text Cancelling signal = absurd signal
signalled user text LinkEnded signal = absurd signal
signalled user text LinkFailed signal = absurd signal
signalled user text TimedOut signal = absurd signal
signalled user text (PacketRefused fault) signal = absurd signal
signalled user text (MessageRefused fault) signal = absurd signal
signalled user text DecisionRefused signal = absurd signal
signalled user text (GateRefused refusal) signal = absurd signal
signalled user text ShortOfMemory signal = absurd signal
signalled user text Panicked signal = absurd signal
signalled user text Overtaken signal = absurd signal
