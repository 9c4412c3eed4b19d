-- The start of a connection, up to its startup packet; and what is said last.
use Rattle.std.specs.{Prelude.{◌≡◌, ◌≢◌, ◌⊎◌, ℕ, ◌<◌, ◌≤◌, List, [], ◌∷◌, ◌++◌, length, take, map, Bool, true, false, Option, IfSome, Result, Ok, Err, MatchOption}, List.flat_map, Option.option_map}
use Rattle.pm_admit.specs.declared.Cac.{Cac}
use Rattle.pm_admit.specs.declared.Cac.TheVariants as decisions
use Rattle.pm_session_exchange.specs.pm_exit.declared.child.Status.TheVariants as statuses
use Rattle.pm_startup.specs.{declared.phase.{Phase.Phase, Step.TheVariants.SayNo}, Grammar.{Content, startup, cancel_request, Decides, FrontDecides, IsUndecided as IsNoPacketYet, max_length}, Phases.step_of, pm_wire.{Backend.BackMessage, Conditions.told, declared.condition.Condition.Condition}}
use Rattle.pm_session_exchange.specs.{pm_query.{declared.{book.BookEntry.{BookEntry, TheVariants.Attached}, store.StoreNo.StoreNo}, Calls.{User, newcomer, user_of}}, pm_child_life.{Life.{Told, Kill, Quit, Terminate, asked_cancel}, Attention.{Attention, Hears, KeepsCancels, was_given}}, declared.ending.{Cause.{Cause, TheVariants.{Cancelling, TimedOut, ToldToTerminate, ToldToQuit, Killed, Overtaken, ShortOfMemory}}, Stage.Stage}, Exchange.{Passes, HasFailed, CutsOff, HoldsLooking, IsLeftFor, IsSound}, Sent.{Turn, bytes_of}, Ends.status_by, Moments.{Moment, ShowsCause, Attends}, Answers.IsOvertakenBy}
use Rattle.pm_session_exchange.specs.pm_query.declared.store.StoreNo.TheVariants as nos
use Rattle.pm_session_exchange.specs.pm_query.declared.store.Store as Store
use Rattle.pm_session.specs.{declared.{session.Admission.Admission, startup.Ask.{Ask, TheVariants.{Nothing, Encryption, Start, Cancel, Refused}}}, Session.{Ending, Heeds, HasAskedFor, IsCaused, IsSession, IsAttachedBehind, HasCancelled, HasCome, IsApart, IsInside, AllSleep, HasSlept, EndsSoundly, between, query_bytes, IsText, IsStart, IsStartOf, is_ordinary_user, IsRefusedPacket, AskInTurn, StopsAt, MayPassOver, Leaves, first_phase, last_messages, status_of}}

-- ---- the startup packet

-- what the bytes that came so far ask for in a phase
abbrev pub AsksFor : Phase → List ℕ → Ask → Type 0
AsksFor phase bytes Nothing = IsNoPacketYet bytes × (length bytes < max_length)
AsksFor phase bytes (Encryption behind used) = (content : Content) × FrontDecides bytes used (Ok content) × (step_of phase content ≡ SayNo behind)
AsksFor phase bytes (Start used is_ordinary) = (user : List ℕ) × FrontDecides bytes used (Ok (startup user)) × (is_ordinary ≡ is_ordinary_user user)
AsksFor phase bytes (Cancel pid key) = (used : ℕ) × FrontDecides bytes used (Ok (cancel_request pid key))
AsksFor phase bytes (Refused fault) = (used : ℕ) × (used ≤ length bytes) × IsRefusedPacket phase (take used bytes) fault

-- the requests for encryption so far, all answered
pub record Asked (phase : Phase) (before now : Moment (Unit {0})) : Type 0 where
  pub requests : List (List ℕ)
  pub came : List ℕ
  pub asks : AskInTurn first_phase requests phase
  pub input : before.unread ++ came ≡ flat_map (λ packet. packet) requests ++ now.unread
  pub passes : Passes came (map (λ packet. 78) requests) before.link now.link
  pub hears : Hears 0 before.child now.child
  pub holds : IsSound false before.link.traffic → IsSound false now.link.traffic

-- After the requests this packet starts the session, of an ordinary user or not, or it goes no further. At the limit of time the link was read, and the
-- packet isn't whole.
abbrev pub GoesOn : (gives : ℕ → Type 0) → (limit : ℕ) → Result Bool Cause → Phase → (last beyond missing : List ℕ) → (before now : Moment (Unit {0})) → Type 0
GoesOn gives limit (Ok is_ordinary) phase last beyond missing before now = IsStartOf is_ordinary last × (beyond ≡ now.unread) × (missing ≡ [])
GoesOn gives limit (Err TimedOut) phase last beyond missing before now =
    StopsAt phase TimedOut last × (beyond ≡ []) × (missing ≡ []) × IfSome now.link.traffic (λ t. (t.waits ≡ true) ⊎ (t.came_in ≢ [])) × IsApart gives limit
GoesOn gives limit (Err cause) phase last beyond missing before now =
    StopsAt phase cause last × MayPassOver cause beyond × ((missing ≡ []) ⊎ CutsOff cause) × ShowsCause cause before.link now.link now.child

-- What the child asked for a cancel: that of a whole packet by which the session ends, and none else.
abbrev pub AsksToCancel : Result Bool Cause → (last : List ℕ) → (before now : Option Told) → Type 0
AsksToCancel (Err Cancelling) last before now = (pid : ℕ) × (key : ℕ) × Decides last (Ok (cancel_request pid key)) × (now ≡ option_map (asked_cancel pid key) before)
AsksToCancel _ last before now = KeepsCancels before now

-- The packets up to the one that starts the session, or up to its end; each request for encryption was answered, but for
-- one whose answer was broken off.
pub record Enters (gives : ℕ → Type 0) (limit : ℕ) (result : Result Bool Cause) (before now : Moment (Unit {0})) : Type 0 where
  pub requests : List (List ℕ)
  pub phase : Phase
  pub last : List ℕ
  pub beyond : List ℕ
  pub came : List ℕ
  pub went : List ℕ
  pub missing : List ℕ
  pub asks : AskInTurn first_phase requests phase
  pub goes_on : GoesOn gives limit result phase last beyond missing before now
  pub input : before.unread ++ came ≡ flat_map (λ packet. packet) requests ++ last ++ beyond
  pub output : map (λ packet. 78) requests ≡ went ++ missing
  pub passes : Passes came went before.link now.link
  pub heard : Attention
  pub hears : Hears 0 before.child heard
  pub attends : Attends before.child now.child
  pub cancels : AsksToCancel result last heard.told now.child.told
  pub holds : HoldsLooking result before.link now.link

-- ---- the store

-- a child is kept out for these two alone
abbrev pub CanRefuseEntry : StoreNo → Type 0
CanRefuseEntry (nos.Stale mine found) = Unit {0}
CanRefuseEntry nos.NoMemory = Unit {0}
CanRefuseEntry _ = ⊥

-- by what a session ends that the store doesn't let in
abbrev pub refusal_cause : StoreNo → Cause
refusal_cause (nos.Stale mine found) = Overtaken
refusal_cause _ = ShortOfMemory

-- ---- the last words

-- this says these messages, or there are none
abbrev pub IsSaidBy : List BackMessage → Option Condition → Type 0
IsSaidBy messages result = MatchOption result (messages ≡ []) (λ condition. messages ≡ told condition ∷ [])

-- what the child was told to do
abbrev pub IsTold : Cause → Attention → Type 0
IsTold ToldToTerminate child = was_given Terminate child.told
IsTold (ToldToQuit reason) child = was_given (Quit reason) child.told
IsTold Killed child = was_given Kill child.told
IsTold _ child = ⊥

-- by what the session ends in the end: by this cause, or by a signal where the child would exit as if nothing had happened
abbrev pub EndsBy : Cause → Cause → Attention → Type 0
EndsBy cause ends child = (ends ≡ cause) ⊎ ((status_by cause ≡ statuses.Code 0) × IsTold ends child)

-- A session that comes to its end for a cause has said its last words, or a front of them.
pub record Closes (decision : Cac) (cause : Cause) (ending : Ending) (before now : Moment (Unit {0})) : Type 0 where
  pub went : List ℕ
  pub missing : List ℕ
  pub ends : EndsBy cause ending.cause now.child
  pub killed : ending.exit ≡ Killed → (ending.cause ≡ Killed) ⊎ was_given Kill now.child.told
  pub whole : bytes_of (last_messages decision ending) ≡ went ++ missing
  pub cut : (missing ≡ []) ⊎ (CutsOff ending.exit ⊎ HasFailed before.link now.link)
  pub passes : Passes [] went before.link now.link
  pub silent : last_messages decision ending ≡ [] → now.link ≡ before.link
  pub hears : Hears 1 before.child now.child
  pub heeds : Heeds (status_of ending) now.child.told
  pub sound : IsLeftFor cause before.link.traffic → EndsSoundly (status_of ending) now.link.traffic

-- by what the child exits that came to its end at this stage for this cause
abbrev pub ClosesBy : Cac → Stage → Cause → (exit : Cause) → (before now : Moment (Unit {0})) → Type 0
ClosesBy decision stage cause exit before now = (ending : Ending) × (ending.stage ≡ stage) × (ending.exit ≡ exit) × Closes decision cause ending before now

-- ---- after the startup packet

-- where it was at the gate, it came as an ordinary one, or not
abbrev pub HasComeAs : (is_ordinary : Bool) → Option Told → Type 0
HasComeAs is_ordinary told = IfSome told (λ t. IfSome t.met (λ attempt. attempt.is_ordinary ≡ is_ordinary))

-- With any requests for encryption and any startup packet before it, this makes the text of a session.
abbrev pub IsTextBehind : Cac → User → ℕ → Ending → List Turn → (came whole : List ℕ) → List BookEntry → Type 0
IsTextBehind decision user key ending turns came whole noted =
    (requests : List (List ℕ)) (phase : Phase) (packet : List ℕ) → AskInTurn first_phase requests phase → IsStart packet
    → IsText decision user key turns ending (flat_map (λ p. p) requests ++ packet ++ came) (map (λ p. 78) requests ++ whole) noted

-- The same of a child that has entered the store and has not left it.
abbrev pub IsTextInside : Cac → User → ℕ → Ending → List Turn → (came whole : List ℕ) → List BookEntry → Type 0
IsTextInside decision user key ending turns came whole noted =
    (left : List BookEntry) → Leaves user ending.exit left → IsTextBehind decision user key ending turns came whole (Attached user.pid user.generation ∷ noted ++ left)

-- What passed up to a session's end, what was noted, and why it ended, whatever its limit of time is; its text is of this
-- kind. Its queries have slept, one for each turn.
pub record Serves {S : Type 0} (notes : List BookEntry → S → S → Type 0) (Text : Ending → List Turn → (came whole : List ℕ) → List BookEntry → Type 0) (decision : Cac) (generation : ℕ) (gives : ℕ → Type 0) (ending : Ending) (before now : Moment S) : Type 0 where
  pub turns : List Turn
  pub came : List ℕ
  pub went : List ℕ
  pub missing : List ℕ
  pub whole : List ℕ
  pub noted : List BookEntry
  pub text : Text ending turns (before.unread ++ came) whole noted
  pub sent : whole ≡ went ++ missing
  pub cut : (missing ≡ []) ⊎ (CutsOff ending.exit ⊎ HasFailed before.link now.link)
  pub passes : Passes came went before.link now.link
  pub entries : notes noted before.store now.store
  pub asked : HasAskedFor turns before.child.told now.child.told
  pub cancels : KeepsCancels before.child.told now.child.told
  pub unasked : ending.cause ≢ Cancelling
  pub texts : List (List ℕ)
  pub beyond : List ℕ
  pub queries : before.unread ++ came ≡ flat_map query_bytes texts ++ beyond
  pub slept : AllSleep gives texts turns
  pub caused : (limit : ℕ) → IsSound false before.link.traffic → IfSome now.link.traffic (λ traffic. HasSlept gives turns traffic.came_in)
      → IsCaused ending turns generation decision now.link.traffic (HasFailed before.link now.link) now.child.told limit gives
  pub heeds : Heeds (status_of ending) now.child.told

-- ---- from each stage on, up to a child's exit by this cause

module _ {S P : Type 0} (its : Store.Ghosts S P) where
  -- in the store, by this pass
  abbrev pub Inside : P → (key : ℕ) → (gives : ℕ → Type 0) → (exit : Cause) → (before now : Moment S) → Type 0
  Inside pass key gives exit before now =
      (ending : Ending) × (ending.exit ≡ exit)
      × Serves its.notes (IsTextInside decisions.Ok (user_of (its.stamp before.store) (its.view pass)) key) decisions.Ok (its.view pass).generation gives ending before now
      × IsInside ending.stage

  -- through the gate, in this generation
  abbrev pub Entered : (key generation : ℕ) → (gives : ℕ → Type 0) → (exit : Cause) → (before now : Moment S) → Type 0
  Entered key generation gives exit before now =
      (ending : Ending) × (ending.exit ≡ exit)
      × Serves its.notes (IsTextBehind decisions.Ok (newcomer (its.stamp before.store) before.child.child.pid generation) key) decisions.Ok generation gives ending before now
      × IsInside ending.stage

  -- after the startup packet of an ordinary user, or of the superuser
  abbrev pub Admitted : Admission → (is_ordinary : Bool) → (gives : ℕ → Type 0) → (exit : Cause) → (before now : Moment S) → Type 0
  Admitted admission is_ordinary gives exit before now =
      (ending : Ending) × (generation : ℕ) × (ending.exit ≡ exit) × IsAttachedBehind ending generation now.child.child.attached
      × Serves its.notes (IsTextBehind admission.decision (newcomer (its.stamp before.store) before.child.child.pid generation) admission.key) admission.decision generation gives ending before now
      × IsOvertakenBy (its.met now.store) generation ending.exit
      × HasComeAs is_ordinary now.child.told

  -- from its first byte, up to this limit of time
  abbrev pub Connected : Admission → (gives : ℕ → Type 0) → (limit : ℕ) → (exit : Cause) → (before now : Moment S) → Type 0
  Connected admission gives limit exit before now =
      (ending : Ending) × (turns : List Turn) × (generation : ℕ) × (ending.exit ≡ exit)
      × IsSession its.notes admission.decision (newcomer (its.stamp before.store) before.child.child.pid generation) admission.key turns ending (HasFailed before.link now.link) (between now.link.traffic before.store now.store)
      × IsCaused ending turns generation admission.decision now.link.traffic (HasFailed before.link now.link) now.child.told limit gives
      × HasAskedFor turns before.child.told now.child.told
      × IsAttachedBehind ending generation now.child.child.attached
      × HasCancelled ending.cause now.link.traffic now.child.told
      × Heeds (status_of ending) now.child.told
      × IsOvertakenBy (its.met now.store) generation ending.exit
      × HasCome now.link.traffic now.child.told
