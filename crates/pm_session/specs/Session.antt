-- A whole session: what its client is sent for what it sent, what the child notes, how it ends, and why.
use Rattle.std.specs.{Prelude.{◌≡◌, ◌≢◌, ◌⊎◌, ℕ, ◌+◌, ◌-◌, ◌^◌, ◌≤◌, min, not, Bool, true, false, List, [], ◌∷◌, ◌++◌, length, map, codes, Option, None, Some, Ok, Err, IfSome}, List.flat_map, Str.bytes_eq}
use Rattle.pm_session_exchange.specs.{pm_outside.{Traffic.Traffic, pm_disk.Cause.Rose}, pm_exit.declared.child.Status.Status, pm_query.{declared.book.BookEntry.{BookEntry, TheVariants.Attached}, Calls.{newcomer, User, MayBeOver, NotesFault, LeaveNotes}}, declared.{last.Done.Done, ending.{MessageFault.{MessageFault, TheVariants.{BadLength, BadForm, LongQuery, Extended, UnknownType}}, Cause.{Cause, TheVariants.{Terminated, Cancelling, LinkEnded, LinkFailed, TimedOut, PacketRefused, MessageRefused, DecisionRefused, GateRefused, ShortOfMemory, Panicked, ToldToTerminate, ToldToQuit, Killed, Overtaken}}, Stage.{Stage, TheVariants.{Outside, Entering, Greeted}}}}, pm_child_life.{declared.life.{Attempt.Attempt, GateNo.GateNo}, Life.{Told, Kill, Quit, Terminate as ToTerminate, answer_met, was_told}, Attention.was_given}, Exchange.CutsOff, Sent.{Turn, bytes_of, greeting, turn_messages, last_of}, Ends.{status_by, LetsGo}, Queries.{IsUnreleased, TurnNotes, Sleeps}, Answers.IsOvertakenBy}
use Rattle.pm_supervisor.specs.{pm_admit.declared.Cac.Cac, declared.Reason.Reason}
use Rattle.pm_supervisor.specs.pm_admit.declared.Cac.TheVariants as decisions
use Rattle.pm_session_exchange.specs.pm_exit.declared.child.Status.TheVariants as statuses
use Rattle.pm_startup.specs.{declared.{packet.StartFault.StartFault, phase.{Phase.Phase, Step.TheVariants.{SayNo, Refuse}}}, Grammar.{Content, startup, cancel_request, Decides, IsUndecided as IsNoPacketYet}, Phases.step_of, pm_wire.{Backend.BackMessage, Frontend.{Query, BadQuery, LongQuery as IsLongQuery, Extended as IsExtended, Other, IsFront, IsUndecided as IsNoMessageYet, IsBadHeader}, Pieces.{message, string}}}
use Rattle.pm_session_exchange.specs.pm_query.declared.store.Store as Store
use Rattle.pm_session_exchange.specs.pm_outside.declared.link.Link as Link
use Rattle.pm_session_exchange.specs.pm_child_life.declared.seat.Seat as Seat
use Rattle.pm_session.specs.{declared.session.{Admission.Admission, SessionConf.SessionConf}, Heeding.{TurnsHeed, AllRead}}

-- ---- endings

-- By what a session came to its end, how far it had come, and as what the child exits: for that cause, or killed while it
-- said its last.
pub record Ending : Type 0 where
  pub cause : Cause
  pub stage : Stage
  pub exit : Cause
  pub exits : (exit ≡ cause) ⊎ (exit ≡ Killed)

abbrev pub last_messages : Cac → Ending → List BackMessage
last_messages decision ending = last_of decision ending.stage ending.cause

abbrev pub status_of : Ending → Status
status_of ending = status_by ending.exit

-- ---- turns

abbrev pub query_bytes : List ℕ → List ℕ
query_bytes text = message (codes "Q") (string text)

-- the queries in order, each with its turn, and all that they note
abbrev pub AllNotes : ℕ → List (List ℕ) → List Turn → List BookEntry → Type 0
AllNotes pid [] [] entries = entries ≡ []
AllNotes pid (text ∷ texts) (turn ∷ turns) entries =
    (first : List BookEntry) × (others : List BookEntry) × (entries ≡ first ++ others) × IsFront (query_bytes text) (Query text)
    × TurnNotes pid text turn first × AllNotes pid texts turns others
AllNotes pid _ _ entries = ⊥

abbrev pub pieces : List (List ℕ) → List Turn → List BackMessage
pieces (text ∷ texts) (turn ∷ turns) = turn_messages text turn ++ pieces texts turns
pieces _ _ = []

-- ---- what came in before the session was greeted

-- encryption requests, each answered with `N`
abbrev pub AskInTurn : Phase → List (List ℕ) → Phase → Type 0
AskInTurn before [] now = before ≡ now
AskInTurn before (packet ∷ packets) now =
    (content : Content) × (between : Phase) × Decides packet (Ok content) × (step_of before content ≡ SayNo between) × AskInTurn between packets now

abbrev pub first_phase : Phase
first_phase = record { ssl_used = false; gss_used = false }

-- a packet that is refused after those requests
abbrev pub IsRefusedPacket : Phase → List ℕ → StartFault → Type 0
IsRefusedPacket phase packet fault =
    Decides packet (Err fault) ⊎ ((content : Content) × Decides packet (Ok content) × (step_of phase content ≡ Refuse fault))

abbrev pub IsStart : List ℕ → Type 0
IsStart packet = (user : List ℕ) × Decides packet (Ok (startup user))

-- everybody but the superuser, whose name counts byte by byte
abbrev pub is_ordinary_user : List ℕ → Bool
is_ordinary_user user = not (bytes_eq user (codes "postgres"))

-- it starts the session of an ordinary user, or of the superuser
abbrev pub IsStartOf : (is_ordinary : Bool) → List ℕ → Type 0
IsStartOf is_ordinary packet = (user : List ℕ) × Decides packet (Ok (startup user)) × (is_ordinary ≡ is_ordinary_user user)

-- the packet after the requests, at an ending before the greeting
abbrev pub StopsAt : Phase → Cause → List ℕ → Type 0
StopsAt phase Cancelling last = (pid : ℕ) × (key : ℕ) × Decides last (Ok (cancel_request pid key))
StopsAt phase LinkEnded last = IsNoPacketYet last
StopsAt phase LinkFailed last = IsNoPacketYet last
StopsAt phase TimedOut last = IsNoPacketYet last
StopsAt phase (PacketRefused fault) last = IsRefusedPacket phase last fault
StopsAt phase DecisionRefused last = IsStart last
StopsAt phase (GateRefused refusal) last = IsStart last
StopsAt phase ShortOfMemory last = IsNoPacketYet last ⊎ IsStart last
StopsAt phase ToldToTerminate last = IsNoPacketYet last ⊎ IsStart last
StopsAt phase (ToldToQuit reason) last = IsNoPacketYet last ⊎ IsStart last
StopsAt phase Killed last = IsNoPacketYet last ⊎ IsStart last
StopsAt phase _ last = ⊥

-- or a child that was let through the gate finds the store in another generation
abbrev pub TurnsAway : User → Stage → Phase → Cause → List ℕ → Type 0
TurnsAway user stage phase Overtaken last = (stage ≡ Entering) × MayBeOver user × IsStart last
TurnsAway user stage phase cause last = StopsAt phase cause last

-- ---- what came in after the greeting

abbrev pub IsRefusedMessage : MessageFault → List ℕ → Type 0
IsRefusedMessage (BadLength seen) last = IsBadHeader last seen
IsRefusedMessage BadForm last = IsFront last BadQuery
IsRefusedMessage (LongQuery seen) last = IsFront last (IsLongQuery seen)
IsRefusedMessage (Extended kind) last = IsFront last (IsExtended kind)
IsRefusedMessage (UnknownType kind) last = IsFront last (Other kind)

-- a query that was in progress, and what it noted
abbrev pub BreaksOff : ℕ → List ℕ → List BookEntry → Type 0
BreaksOff pid last noted = (text : List ℕ) × (last ≡ query_bytes text) × IsFront last (Query text) × IsUnreleased pid text noted

-- nothing was in progress, or a query was
abbrev pub StopsInside : ℕ → List ℕ → List BookEntry → Type 0
StopsInside pid last noted = (IsNoMessageYet last × (noted ≡ [])) ⊎ BreaksOff pid last noted

-- the last bytes after the queries that were answered, and what is noted for them
abbrev pub EndsAt : User → Cause → List ℕ → List BookEntry → Type 0
EndsAt user Terminated last noted = (last ≡ message (codes "X") []) × (noted ≡ [])
EndsAt user LinkEnded last noted = IsNoMessageYet last × (noted ≡ [])
EndsAt user LinkFailed last noted = IsNoMessageYet last × (noted ≡ [])
EndsAt user (MessageRefused fault) last noted = IsRefusedMessage fault last × (noted ≡ [])
EndsAt user Panicked last noted =
    (asked : List BookEntry) × (broke : List BookEntry) × BreaksOff user.pid last asked × NotesFault user.pid broke × (noted ≡ asked ++ broke)
EndsAt user ToldToTerminate last noted = StopsInside user.pid last noted × (noted ≡ [])
EndsAt user (ToldToQuit reason) last noted = StopsInside user.pid last noted
EndsAt user Killed last noted = StopsInside user.pid last noted
EndsAt user Overtaken last noted = MayBeOver user × BreaksOff user.pid last noted
EndsAt user _ last noted = ⊥

-- ---- the whole

abbrev pub Leaves : User → Cause → List BookEntry → Type 0
Leaves user cause left = LetsGo cause (LeaveNotes user left) (left ≡ [])

-- what was noted before the session was greeted: nothing, or that it entered and left again
abbrev pub NotesOutside : User → Stage → Cause → List BookEntry → Type 0
NotesOutside user Outside cause noted = noted ≡ []
NotesOutside user Entering cause noted =
    (noted ≡ []) ⊎ ((left : List BookEntry) × (noted ≡ Attached user.pid user.generation ∷ left) × Leaves user cause left)
NotesOutside user Greeted cause noted = ⊥

-- Bytes that were read together with what ended the session are passed over; after the link's end, and at the limit of
-- time, there are none.
abbrev pub MayPassOver : Cause → List ℕ → Type 0
MayPassOver LinkEnded beyond = beyond ≡ []
MayPassOver TimedOut beyond = beyond ≡ []
MayPassOver _ beyond = Unit {0}

-- the one before the gate, and the other from the gate on
abbrev pub ByStage : Stage → (outside inside : Type 0) → Type 0
ByStage Outside outside inside = outside
ByStage _ outside inside = inside

-- only a child whose decision is Ok goes through the gate
abbrev pub IsAdmitted : Stage → Cac → Type 0
IsAdmitted stage decision = ByStage stage (Unit {0}) (decision ≡ decisions.Ok)

-- it goes to the gate only after a whole startup packet
abbrev pub IsBehindStart : Stage → List ℕ → Type 0
IsBehindStart stage last = ByStage stage (Unit {0}) (IsStart last)

-- It ended before the greeting.
pub record IsTurnedAway (decision : Cac) (user : User) (ending : Ending) (came_in : List ℕ) (whole : List ℕ) (noted : List BookEntry) : Type 0 where
  pub requests : List (List ℕ)
  pub phase : Phase
  pub last : List ℕ
  pub beyond : List ℕ
  pub admitted : IsAdmitted ending.stage decision
  pub asks : AskInTurn first_phase requests phase
  pub stops : TurnsAway user ending.stage phase ending.cause last
  pub start : IsBehindStart ending.stage last
  pub input : came_in ≡ flat_map (λ packet. packet) requests ++ last ++ beyond
  pub passes_over : MayPassOver ending.cause beyond
  pub output : whole ≡ map (λ packet. 78) requests ++ bytes_of (last_messages decision ending)
  pub notes : NotesOutside user ending.stage ending.exit noted

-- It was greeted, and answered its queries in order, up to its end.
pub record IsServed (decision : Cac) (user : User) (key : ℕ) (turns : List Turn) (ending : Ending) (came_in : List ℕ) (whole : List ℕ) (noted : List BookEntry) : Type 0 where
  pub requests : List (List ℕ)
  pub phase : Phase
  pub packet : List ℕ
  pub texts : List (List ℕ)
  pub last : List ℕ
  pub beyond : List ℕ
  pub asked : List BookEntry
  pub ended : List BookEntry
  pub left : List BookEntry
  pub admitted : decision ≡ decisions.Ok
  pub stage : ending.stage ≡ Greeted
  pub asks : AskInTurn first_phase requests phase
  pub start : IsStart packet
  pub input : came_in ≡ flat_map (λ packet. packet) requests ++ packet ++ flat_map query_bytes texts ++ last ++ beyond
  pub passes_over : MayPassOver ending.cause beyond
  pub output : whole ≡ map (λ packet. 78) requests ++ bytes_of (greeting user.pid key ++ pieces texts turns ++ last_messages decision ending)
  pub notes : noted ≡ (Attached user.pid user.generation ∷ asked) ++ ended ++ left
  pub each : AllNotes user.pid texts turns asked
  pub read : AllRead texts turns
  pub ends : EndsAt user ending.cause last ended
  pub leaves : Leaves user ending.exit left

abbrev pub IsText : Cac → User → ℕ → List Turn → Ending → (came_in whole : List ℕ) → List BookEntry → Type 0
IsText decision user key turns ending came_in whole noted =
    IsTurnedAway decision user ending came_in whole noted × (turns ≡ []) ⊎ IsServed decision user key turns ending came_in whole noted

-- the link at the end of a session, and the store at its beginning and its end
pub record Span (S : Type 0) : Type 0 where
  pub link : Option Traffic
  pub store_before : S
  pub store_now : S

abbrev pub between : {S : Type 0} → Option Traffic → S → S → Span S
between link store_before store_now = record { link = link; store_before = store_before; store_now = store_now }

-- what passed on the link is the text, or a beginning of it
pub record HasPassed (cut : Type 0) (came_in whole : List ℕ) (link : Option Traffic) : Type 0 where
  pub missing : List ℕ
  pub read : IfSome link (λ traffic. traffic.came_in ≡ came_in)
  pub sent : IfSome link (λ traffic. traffic.went_out ++ missing ≡ whole)
  pub cause : (missing ≡ []) ⊎ cut

pub record IsSession {S : Type 0} (notes : List BookEntry → S → S → Type 0) (decision : Cac) (user : User) (key : ℕ) (turns : List Turn) (ending : Ending) (link_failed : Type 0) (span : Span S) : Type 0 where
  pub came_in : List ℕ
  pub whole : List ℕ
  pub noted : List BookEntry
  pub text : IsText decision user key turns ending came_in whole noted
  pub passed : HasPassed (CutsOff ending.exit ⊎ link_failed) came_in whole span.link
  pub entries : notes noted span.store_before span.store_now

-- ---- causes

-- the clock gives two moments so far apart
pub record IsApart (gives : ℕ → Type 0) (limit : ℕ) : Type 0 where
  pub earlier : ℕ
  pub later : ℕ
  pub first : gives earlier
  pub second : gives later
  pub apart : earlier + limit ≤ later

-- each query has slept, as far as it was run
abbrev pub AllSleep : (ℕ → Type 0) → List (List ℕ) → List Turn → Type 0
AllSleep gives [] [] = Unit {0}
AllSleep gives (text ∷ texts) (turn ∷ turns) = IsFront (query_bytes text) (Query text) × Sleeps gives text turn × AllSleep gives texts turns
AllSleep gives _ _ = ⊥

-- So have the queries after the startup packet, one for each turn.
pub record QueriesSlept (gives : ℕ → Type 0) (turns : List Turn) (came_in : List ℕ) : Type 0 where
  pub requests : List (List ℕ)
  pub phase : Phase
  pub packet : List ℕ
  pub texts : List (List ℕ)
  pub beyond : List ℕ
  pub asks : AskInTurn first_phase requests phase
  pub start : IsStart packet
  pub slept : AllSleep gives texts turns
  pub input : came_in ≡ flat_map (λ p. p) requests ++ packet ++ flat_map query_bytes texts ++ beyond

abbrev pub HasSlept : (ℕ → Type 0) → List Turn → List ℕ → Type 0
HasSlept gives [] came_in = Unit {0}
HasSlept gives (turn ∷ turns) came_in = QueriesSlept gives (turn ∷ turns) came_in

-- no call was made after one that failed, nor a read after the end, and after a fault the exit isn't 0
abbrev pub EndsSoundly : Status → Option Traffic → Type 0
EndsSoundly status link = IfSome link (λ traffic. (traffic.went_on ≡ false) × (traffic.failed ≡ true → status ≢ statuses.Code 0))

abbrev pub CausedBy : Cause → Cac → Option Traffic → (link_failed : Type 0) → Option Told → ℕ → (ℕ → Type 0) → Type 0
CausedBy LinkEnded decision link link_failed told limit gives = IfSome link (λ traffic. traffic.ended ≡ true)
CausedBy LinkFailed decision link link_failed told limit gives = link_failed
CausedBy TimedOut decision link link_failed told limit gives = IfSome link (λ traffic. (traffic.waits ≡ true) ⊎ (traffic.came_in ≢ [])) × IsApart gives limit
CausedBy DecisionRefused decision link link_failed told limit gives = decision ≢ decisions.Ok
CausedBy (GateRefused refusal) decision link link_failed told limit gives = (decision ≡ decisions.Ok) × IfSome told (λ t. answer_met t ≡ Some (Err refusal))
CausedBy ToldToTerminate decision link link_failed told limit gives = was_given ToTerminate told
CausedBy (ToldToQuit reason) decision link link_failed told limit gives = was_given (Quit reason) told
CausedBy Killed decision link link_failed told limit gives = was_given Kill told
CausedBy _ decision link link_failed told limit gives = Unit {0}

-- it went through the gate into this generation
abbrev pub HasEntered : Stage → ℕ → Option Told → Type 0
HasEntered stage generation told = ByStage stage (Unit {0}) (IfSome told (λ t. answer_met t ≡ Some (Ok generation)))

-- a child outside was at the gate only where that refused it
abbrev pub StaysOut : Stage → Cause → Option Told → Type 0
StaysOut Outside cause told = IfSome told (λ t. (t.met ≡ None) ⊎ ((refusal : GateNo) × (cause ≡ GateRefused refusal) × (answer_met t ≡ Some (Err refusal))))
StaysOut _ cause told = Unit {0}

pub record IsCaused (ending : Ending) (turns : List Turn) (generation : ℕ) (decision : Cac) (link : Option Traffic) (link_failed : Type 0) (told : Option Told) (limit : ℕ) (gives : ℕ → Type 0) : Type 0 where
  pub cause : CausedBy ending.cause decision link link_failed told limit gives
  pub exit : CausedBy ending.exit decision link link_failed told limit gives
  pub gate : HasEntered ending.stage generation told
  pub out : StaysOut ending.stage ending.cause told
  pub heeded : IfSome told (λ t. TurnsHeed 0 turns t.asked t.given)
  pub sound : EndsSoundly (status_of ending) link
  pub slept : IfSome link (λ traffic. HasSlept gives turns traffic.came_in)

-- it has asked for its signals once more at least than it has turns, or up to the last number
abbrev pub HasAskedFor : List Turn → Option Told → Option Told → Type 0
HasAskedFor turns None now = Unit {0}
HasAskedFor turns (Some before) None = ⊥
HasAskedFor turns (Some before) (Some now) = min (before.asked + length turns + 1) (2 ^ 64 - 1) ≤ now.asked

-- a child that was killed says so, and one that was told to end doesn't exit as if nothing had happened
pub record HeedsTold (status : Status) (told : Told) : Type 0 where
  pub kill : was_told Kill told → status ≡ statuses.Signal 9
  pub quit : (reason : Reason) → was_told (Quit reason) told → status ≢ statuses.Code 0
  pub terminate : was_told ToTerminate told → status ≢ statuses.Code 0

abbrev pub Heeds : Status → Option Told → Type 0
Heeds status told = IfSome told (HeedsTold status)

-- it went through the gate
abbrev pub IsInside : Stage → Type 0
IsInside Outside = ⊥
IsInside _ = Unit {0}

-- It is attached at its end only where it went through the gate and doesn't exit of itself, and then in the generation that
-- the gate let it into.
abbrev pub IsAttachedBehind : Ending → (generation : ℕ) → (attached : Option ℕ) → Type 0
IsAttachedBehind ending generation attached =
    ByStage ending.stage (attached ≡ None) (LetsGo ending.exit (attached ≡ None) (attached ≡ Some generation))

-- ---- cancels

-- after requests for encryption that were all answered, a whole packet that asks for this cancel
pub record AsksCancel (came_in : List ℕ) (pid key : ℕ) : Type 0 where
  pub requests : List (List ℕ)
  pub phase : Phase
  pub packet : List ℕ
  pub beyond : List ℕ
  pub asks : AskInTurn first_phase requests phase
  pub whole : Decides packet (Ok (cancel_request pid key))
  pub input : came_in ≡ flat_map (λ p. p) requests ++ packet ++ beyond

-- a child asks for the cancel that its client sent whole, or for none
abbrev pub MakesCancels : (came_in : List ℕ) → List (ℕ × ℕ) → Type 0
MakesCancels came_in cancels = (cancels ≡ []) ⊎ ((pid : ℕ) × (key : ℕ) × AsksCancel came_in pid key × (cancels ≡ (pid, key) ∷ []))

-- one that ends by it has asked for it
pub record HasCancelled (cause : Cause) (link : Option Traffic) (told : Option Told) : Type 0 where
  pub sent : IfSome told (λ t. IfSome link (λ traffic. MakesCancels traffic.came_in t.cancels))
  pub made : cause ≡ Cancelling → IfSome told (λ t. t.cancels ≢ [])

-- ---- the gate

-- A child comes to the gate as its client's user: after requests for encryption that were all answered, whoever is named by a
-- whole startup packet.
pub record ComesAs (attempt : Attempt) (came_in : List ℕ) : Type 0 where
  pub requests : List (List ℕ)
  pub phase : Phase
  pub packet : List ℕ
  pub beyond : List ℕ
  pub asks : AskInTurn first_phase requests phase
  pub start : IsStartOf attempt.is_ordinary packet
  pub input : came_in ≡ flat_map (λ p. p) requests ++ packet ++ beyond

-- one that was there came so
abbrev pub HasCome : Option Traffic → Option Told → Type 0
HasCome link told = IfSome told (λ t. IfSome t.met (λ attempt. IfSome link (λ traffic. ComesAs attempt traffic.came_in)))

-- ---- a connection served

module _ {W P L : Type 0} (its : Store.Ghosts W P) (seat : Seat.Ghosts W) (of_link : Link.Ghosts L) where
  -- What came in on this link, what went out and what the child noted that works on this are those of one session; its ending
  -- has its causes and its status. It has asked for its signals, is attached or not, and has made cancels as told above. Where
  -- it exits as overtaken, it has last met the store in another generation than its own. It came to the gate as its client's
  -- user.
  abbrev pub HasServed : Admission → SessionConf → (gives : ℕ → Type 0) → L → W → Done L W → Type 0
  HasServed admission conf gives link work result =
      (ending : Ending) × (turns : List Turn) × (generation : ℕ) × (result.status ≡ status_of ending)
      × IsSession its.notes admission.decision (newcomer (its.stamp work) (seat.child work).pid generation) admission.key turns ending
      (Rose (of_link.faults link) (of_link.faults result.link)) (between (of_link.traffic result.link) work result.work)
      × IsCaused ending turns generation admission.decision (of_link.traffic result.link) (Rose (of_link.faults link) (of_link.faults result.link))
      (seat.told result.work) conf.authentication_ms gives
      × HasAskedFor turns (seat.told work) (seat.told result.work)
      × IsAttachedBehind ending generation (seat.child result.work).attached
      × HasCancelled ending.cause (of_link.traffic result.link) (seat.told result.work)
      × IsOvertakenBy (its.met result.work) generation ending.exit
      × HasCome (of_link.traffic result.link) (seat.told result.work)
