-- What sessions note is the work of their children.
use Rattle.std.{proofs.{Common.{◌≡◌, ◌⊎◌, inl, inr, ℕ, List, [], ◌∷◌, ◌++◌, All, Some, refl, sym, ◌∙◌, ap, subst, append_assoc}, lemmas.{List.Elements.{All-nil, All-cons, All-head, All-tail, All-same, All-append}, Option.same_Some}}, specs.{Prelude.{Bool, false, if◌then◌else◌}, List.AllByRecursion}}
use Rattle.pm_session.specs.pm_admit.declared.Cac.TheVariants as decisions
use Rattle.pm_session.specs.{pm_query.{Calls.{User, LeaveNotes}, declared.book.BookEntry.{BookEntry, TheVariants.{Attached, Answered, Released, Detached, Broke, LogFull}}}, pm_session_exchange.{Sent.{Turn, Ran, Faulted, NotUtf8, Cancelled, LogIsFull, Memory}, Queries.{IsUnreleased, TurnNotes}, declared.ending.{Cause.{Cause, TheVariants.{Terminated, Cancelling, LinkEnded, LinkFailed, TimedOut, PacketRefused, MessageRefused, DecisionRefused, GateRefused, ShortOfMemory, Panicked, ToldToTerminate, ToldToQuit, Killed, Overtaken}}, Stage.{Stage, TheVariants.{Outside, Entering, Greeted}}}}, Session.{AllNotes, EndsAt, IsText, Leaves, NotesOutside, StopsInside, TurnsAway}}
use Rattle.pm_supervisor_chain.specs.Steps.{ChildRun, HasEntered, IsRunOf, IsWorkOf, StaysOutside, leaving}
use Rattle.pm_once.specs.Service.{Connection, IsOfItself, IsServedAs, is_panic, run_of, user_in}

none_work : (run : ChildRun) (entries : List BookEntry) → entries ≡ [] → All (IsWorkOf run) entries
none_work run entries is = All-same (IsWorkOf run) entries [] is (All-nil (IsWorkOf run))

one_work : (run : ChildRun) (entries : List BookEntry) (entry : BookEntry) → IsWorkOf run entry → entries ≡ entry ∷ [] → All (IsWorkOf run) entries
one_work run entries entry work is = All-same (IsWorkOf run) entries (entry ∷ []) is (All-cons (IsWorkOf run) entry [] work (All-nil (IsWorkOf run)))

unreleased_work : (run : ChildRun) (pid : ℕ) → pid ≡ run.pid → (text : List ℕ) (entries : List BookEntry) → IsUnreleased pid text entries → All (IsWorkOf run) entries
unreleased_work run pid own text entries (inl none) = none_work run entries none
unreleased_work run pid own text entries (inr answer) = one_work run entries (Answered pid answer.0 answer.1 answer.3 answer.2 answer.5.tick) own answer.5.entries_are

turn_work : (run : ChildRun) (pid : ℕ) → pid ≡ run.pid → (text : List ℕ) (turn : Turn) (entries : List BookEntry) → TurnNotes pid text turn entries → All (IsWorkOf run) entries
turn_work run pid own text (Ran reply) entries released =
    All-same (IsWorkOf run) entries (Answered pid released.script reply released.commit released.front released.answer.tick ∷ Released pid released.front released.tick ∷ [])
    (released.entries_are ∙ ap (λ (l : List BookEntry). l ++ Released pid released.front released.tick ∷ []) released.answer.entries_are)
    (All-cons (IsWorkOf run) (Answered pid released.script reply released.commit released.front released.answer.tick) (Released pid released.front released.tick ∷ []) own
    (All-cons (IsWorkOf run) (Released pid released.front released.tick) [] own (All-nil (IsWorkOf run))))
turn_work run pid own text (Faulted fault) entries notes = none_work run entries notes.2
turn_work run pid own text NotUtf8 entries notes = none_work run entries notes.1
turn_work run pid own text Cancelled entries notes = none_work run entries notes
turn_work run pid own text LogIsFull entries notes = one_work run entries (LogFull pid notes.0 notes.1 notes.2) own notes.4
turn_work run pid own text Memory entries (inl unreleased) = unreleased_work run pid own text entries unreleased
turn_work run pid own text Memory entries (inr notes) = one_work run entries (LogFull pid notes.0 notes.1 notes.2) own notes.4

all_work : (run : ChildRun) (pid : ℕ) → pid ≡ run.pid → (texts : List (List ℕ)) (turns : List Turn) (entries : List BookEntry) → AllNotes pid texts turns entries → All (IsWorkOf run) entries
all_work run pid own [] [] entries notes = none_work run entries notes
all_work run pid own [] (turn ∷ turns) entries notes = absurd notes
all_work run pid own (text ∷ texts) [] entries notes = absurd notes
all_work run pid own (text ∷ texts) (turn ∷ turns) entries notes =
    All-same (IsWorkOf run) entries (notes.0 ++ notes.1) notes.2 (All-append (IsWorkOf run) notes.0 notes.1 (turn_work run pid own text turn notes.0 notes.4) (all_work run pid own texts turns notes.1 notes.5))

inside_work : (run : ChildRun) (pid : ℕ) → pid ≡ run.pid → (last : List ℕ) (noted : List BookEntry) → StopsInside pid last noted → All (IsWorkOf run) noted
inside_work run pid own last noted (inl nothing) = none_work run noted nothing.1
inside_work run pid own last noted (inr breaks) = unreleased_work run pid own breaks.0 noted breaks.3

ends_work : (run : ChildRun) (user : User) → user.pid ≡ run.pid → (cause : Cause) (last : List ℕ) (noted : List BookEntry) → EndsAt user cause last noted → All (IsWorkOf run) noted
ends_work run user own Terminated last noted ends = none_work run noted ends.1
ends_work run user own Cancelling last noted ends = absurd ends
ends_work run user own LinkEnded last noted ends = none_work run noted ends.1
ends_work run user own LinkFailed last noted ends = none_work run noted ends.1
ends_work run user own TimedOut last noted ends = absurd ends
ends_work run user own (PacketRefused fault) last noted ends = absurd ends
ends_work run user own (MessageRefused fault) last noted ends = none_work run noted ends.1
ends_work run user own DecisionRefused last noted ends = absurd ends
ends_work run user own (GateRefused refusal) last noted ends = absurd ends
ends_work run user own ShortOfMemory last noted ends = absurd ends
ends_work run user own Panicked last noted ends = All-same (IsWorkOf run) noted (ends.0 ++ ends.1) ends.4 (All-append (IsWorkOf run) ends.0 ends.1 (unreleased_work run user.pid own ends.2.0 ends.0 ends.2.3) (one_work run ends.1 (Broke user.pid ends.3.0 ends.3.1) own ends.3.2))
ends_work run user own ToldToTerminate last noted ends = none_work run noted ends.1
ends_work run user own (ToldToQuit reason) last noted ends = inside_work run user.pid own last noted ends
ends_work run user own Killed last noted ends = inside_work run user.pid own last noted ends
ends_work run user own Overtaken last noted ends = unreleased_work run user.pid own ends.1.0 noted ends.1.3

recursively : (run : ChildRun) (es : List BookEntry) → All (IsWorkOf run) es → AllByRecursion (IsWorkOf run) es
recursively run [] all = tt
recursively run (e ∷ es) all = (All-head (IsWorkOf run) e es all, recursively run es (All-tail (IsWorkOf run) e es all))

-- its leave, by what it exits
abbrev leaving_by : Bool → ℕ → List BookEntry
leaving_by active pid = if active then [] else Detached pid ∷ []

gone : (home pid : ℕ) (left : List BookEntry) → LeaveNotes (record { pid = pid; generation = home; stamp = Some home }) left → left ≡ Detached pid ∷ []
gone home pid left (inl detached) = detached
gone home pid left (inr over) = absurd (over.0 refl)

left_so : (connection : Connection) (cause : Cause) (left : List BookEntry) → IsOfItself cause → connection.ending.exit ≡ cause → Leaves (user_in connection) cause left → left ≡ leaving (run_of connection)
left_so connection Terminated left own is leaves = gone connection.generation connection.pid left leaves ∙ sym (ap (λ (x : Cause). leaving_by (is_panic x) connection.pid) is)
left_so connection Cancelling left own is leaves = gone connection.generation connection.pid left leaves ∙ sym (ap (λ (x : Cause). leaving_by (is_panic x) connection.pid) is)
left_so connection LinkEnded left own is leaves = gone connection.generation connection.pid left leaves ∙ sym (ap (λ (x : Cause). leaving_by (is_panic x) connection.pid) is)
left_so connection LinkFailed left own is leaves = gone connection.generation connection.pid left leaves ∙ sym (ap (λ (x : Cause). leaving_by (is_panic x) connection.pid) is)
left_so connection TimedOut left own is leaves = gone connection.generation connection.pid left leaves ∙ sym (ap (λ (x : Cause). leaving_by (is_panic x) connection.pid) is)
left_so connection (PacketRefused fault) left own is leaves = gone connection.generation connection.pid left leaves ∙ sym (ap (λ (x : Cause). leaving_by (is_panic x) connection.pid) is)
left_so connection (MessageRefused fault) left own is leaves = gone connection.generation connection.pid left leaves ∙ sym (ap (λ (x : Cause). leaving_by (is_panic x) connection.pid) is)
left_so connection DecisionRefused left own is leaves = absurd own
left_so connection (GateRefused refusal) left own is leaves = absurd own
left_so connection ShortOfMemory left own is leaves = gone connection.generation connection.pid left leaves ∙ sym (ap (λ (x : Cause). leaving_by (is_panic x) connection.pid) is)
left_so connection Panicked left own is leaves = leaves ∙ sym (ap (λ (x : Cause). leaving_by (is_panic x) connection.pid) is)
left_so connection ToldToTerminate left own is leaves = absurd own
left_so connection (ToldToQuit reason) left own is leaves = absurd own
left_so connection Killed left own is leaves = absurd own
left_so connection Overtaken left own is leaves = absurd own

no_panic : (cause : Cause) → (cause ≡ Panicked → ⊥) → is_panic cause ≡ false
no_panic Terminated other = refl
no_panic Cancelling other = refl
no_panic LinkEnded other = refl
no_panic LinkFailed other = refl
no_panic TimedOut other = refl
no_panic (PacketRefused fault) other = refl
no_panic (MessageRefused fault) other = refl
no_panic DecisionRefused other = refl
no_panic (GateRefused refusal) other = refl
no_panic ShortOfMemory other = refl
no_panic Panicked other = absurd (other refl)
no_panic ToldToTerminate other = refl
no_panic (ToldToQuit reason) other = refl
no_panic Killed other = refl
no_panic Overtaken other = refl

outside_run : (connection : Connection) (noted : List BookEntry) (stage : Stage) → NotesOutside (user_in connection) stage connection.ending.exit noted → noted ≡ connection.noted
    → IsOfItself connection.ending.cause → connection.ending.exit ≡ connection.ending.cause → is_panic connection.ending.cause ≡ false → StaysOutside (run_of connection) ⊎ HasEntered (run_of connection)
outside_run connection noted Outside notes same own exit calm = inl (record { noted = sym same ∙ notes; inactive = ap is_panic exit ∙ calm })
outside_run connection noted Entering (inl none) same own exit calm = inl (record { noted = sym same ∙ none; inactive = ap is_panic exit ∙ calm })
outside_run connection noted Entering (inr entered) same own exit calm = inr (record {
  work = [];
  noted = sym same ∙ entered.1 ∙ ap (λ (l : List BookEntry). Attached connection.pid connection.generation ∷ l)
      (left_so connection connection.ending.cause entered.0 own exit (subst (λ (x : Cause). Leaves (user_in connection) x entered.0) exit entered.2));
  of_it = tt;
  serves = refl;
})
outside_run connection noted Greeted notes same own exit calm = absurd notes

used : (connection : Connection) (key : ℕ) (came_in whole : List ℕ) (noted : List BookEntry) → noted ≡ connection.noted → IsOfItself connection.ending.cause → connection.ending.exit ≡ connection.ending.cause
    → IsText decisions.Ok (user_in connection) key connection.turns connection.ending came_in whole noted → StaysOutside (run_of connection) ⊎ HasEntered (run_of connection)
used connection key came_in whole noted same own exit (inr served) = inr (record {
  work = served.asked ++ served.ended;
  noted = sym same ∙ served.notes ∙ ap (λ (l : List BookEntry). l ++ served.left) (append_assoc (Attached connection.pid connection.generation ∷ []) served.asked served.ended)
      ∙ ap (λ (l : List BookEntry). (Attached connection.pid connection.generation ∷ (served.asked ++ served.ended)) ++ l)
      (left_so connection connection.ending.cause served.left own exit (subst (λ (x : Cause). Leaves (user_in connection) x served.left) exit served.leaves));
  of_it = recursively (run_of connection) (served.asked ++ served.ended)
      (All-append (IsWorkOf (run_of connection)) served.asked served.ended (all_work (run_of connection) connection.pid refl served.texts connection.turns served.asked served.each)
      (ends_work (run_of connection) (user_in connection) refl connection.ending.cause served.last served.ended served.ends));
  serves = refl;
})
used connection key came_in whole noted same own exit (inl away) =
    outside_run connection noted connection.ending.stage away.0.notes same own exit
    (no_panic connection.ending.cause (λ is. subst (λ (x : Cause). TurnsAway (user_in connection) connection.ending.stage away.0.phase x away.0.last) is away.0.stops))

-- the run of a session's child
pub session_run : (key limit : ℕ) (gives : ℕ → Type 0) (connection : Connection) → IsServedAs key limit gives connection → IsRunOf (run_of connection)
session_run key limit gives connection served = record {
  use_of_store = used connection key served.session.came_in served.session.whole served.session.noted (same_Some served.session.noted connection.noted (sym served.session.entries)) served.alone.cause served.alone.exit served.session.text;
  redo = refl;
}
