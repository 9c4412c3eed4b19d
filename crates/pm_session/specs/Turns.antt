-- A query step by step: what is answered and noted for it, what its client is sent, and what waiting for it can give.
use Rattle.std.specs.{Prelude.{◌≡◌, ◌⊎◌, ◌≤◌, ◌++◌, ℕ, List, [], length, Contains, Result, Ok, Err, IfErr, false}, List.flat_map}
use Rattle.pm_session_exchange.specs.{pm_query.{declared.book.BookEntry.BookEntry, Calls.{User, user_of}}, pm_child_life.{Life.Cancel, Attention.{Attention, Hears, GivenSince, was_given}}, Room.IsQueryString, declared.ending.Cause.Cause, Exchange.{LinkView, CutsOff, Passes, Holds}, Queries.{IsReadAs, TurnNotes, IsCancelledTurn, SleptWhole, Sleeps}, Sent.{Turn, bytes_of, turn_messages}, Moments.{Moment, moment, ShowsCause, IsBreak}, Answers.{EndNotes, SleepsUncancelled}}
use Rattle.pm_session_exchange.specs.pm_query.declared.store.Store as Store
use Rattle.pm_wire.specs.{Outgoing.Outgoing, Backend.BackMessage, Frontend.{FrontMessage, IsFront, Query as IsQuery}}
use Rattle.pm_session.specs.{Heeding.{HeedInTurn, AllRead}, Session.{AllNotes, EndsAt, MayPassOver, AllSleep, pieces, query_bytes}, Conversation.Conversed}

-- ---- what a client is sent

-- the link, what stands in the outbox, and the child
pub record Desk : Type 0 where
  pub link : LinkView
  pub outbox : Outgoing
  pub child : Attention

abbrev pub desk : LinkView → Outgoing → Attention → Desk
desk link outbox child = record { link = link; outbox = outbox; child = child }

-- a desk, and what its child works on
pub record DeskView (W : Type 0) : Type 0 where
  pub link : LinkView
  pub outbox : Outgoing
  pub work : W
  pub child : Attention

abbrev pub without_work : {W : Type 0} → DeskView W → Desk
without_work at = desk at.link at.outbox at.child

-- a moment at a desk, with what wasn't looked at yet
abbrev pub at_desk : {W : Type 0} → DeskView W → List ℕ → Moment W
at_desk at unread = moment at.link unread at.work at.child

-- what didn't go out stands in the outbox, or sending was broken off
abbrev pub IsLeft : Result (Unit {0}) Cause → (missing stands : List ℕ) → Type 0
IsLeft (Ok done) missing stands = missing ≡ stands
IsLeft (Err cause) missing stands = CutsOff cause × IsBreak cause

-- These messages were said: they stand in the outbox after what stood there, and a front of it all went out.
pub record Says (result : Result (Unit {0}) Cause) (messages : List BackMessage) (before now : Desk) : Type 0 where
  pub went : List ℕ
  pub missing : List ℕ
  pub whole : before.outbox.bytes ++ bytes_of messages ≡ went ++ missing
  pub left : IsLeft result missing now.outbox.bytes
  pub passes : Passes [] went before.link now.link
  pub room : before.outbox.capacity ≤ now.outbox.capacity
  pub hears : Hears 0 before.child now.child
  pub shows : IfErr result (λ cause. ShowsCause cause before.link now.link now.child)
  pub holds : Holds false result before.link now.link

-- ---- turns

-- a query was answered, and of its piece these bytes didn't go out
pub record Answered {S : Type 0} (notes : List BookEntry → S → S → Type 0) (gives : ℕ → Type 0) (user : User) (text missing : List ℕ) (before now : Moment S) : Type 0 where
  pub turn : Turn
  pub noted : List BookEntry
  pub went : List ℕ
  pub means : TurnNotes user.pid text turn noted
  pub whole : bytes_of (turn_messages text turn) ≡ went ++ missing
  pub passes : Passes [] went before.link now.link
  pub entries : notes noted before.store now.store
  pub hears : Hears 0 before.child now.child
  pub read : IsReadAs text turn
  pub slept : Sleeps gives text turn
  pub cancelled : IsCancelledTurn turn → GivenSince Cancel before.child.told now.child.told
  pub uncancelled : SleptWhole turn → SleepsUncancelled before.child.told now.child.told

-- it was not, and nothing was sent
pub record BrokenOff {S : Type 0} (notes : List BookEntry → S → S → Type 0) (user : User) (text : List ℕ) (cause : Cause) (before now : Moment S) : Type 0 where
  pub noted : List BookEntry
  pub ends : EndNotes user text cause noted
  pub passes : Passes [] [] before.link now.link
  pub entries : notes noted before.store now.store
  pub hears : Hears 0 before.child now.child

-- a query was answered; or it was not, or sending its answer was broken off, and this ends the session
abbrev pub ReplyGoes : {S : Type 0} → (notes : List BookEntry → S → S → Type 0) → (gives : ℕ → Type 0) → User → (text : List ℕ) → Result (Unit {0}) Cause → (before now : Moment S) → Type 0
ReplyGoes notes gives user text (Ok done) before now = Answered notes gives user text [] before now
ReplyGoes notes gives user text (Err cause) before now =
    ((missing : List ℕ) × CutsOff cause × IsBreak cause × Answered notes gives user text missing before now) ⊎ BrokenOff notes user text cause before now

-- a query's text is no longer than is read, and holds no zero byte
abbrev pub HasQueryText : FrontMessage → Type 0
HasQueryText (IsQuery text) = IsQueryString text
HasQueryText _ = Unit {0}

-- any other message ends the session
pub record Refuses {S : Type 0} (user : User) (message : FrontMessage) (cause : Cause) (before now : Moment S) : Type 0 where
  pub ends : (last : List ℕ) → IsFront last message → EndsAt user cause last []
  pub passes_over : (beyond : List ℕ) → MayPassOver cause beyond
  pub still : now ≡ before

abbrev pub MessageGoes : {S : Type 0} → (notes : List BookEntry → S → S → Type 0) → (gives : ℕ → Type 0) → User → FrontMessage → Result (Unit {0}) Cause → (before now : Moment S) → Type 0
MessageGoes notes gives user (IsQuery text) result before now = ReplyGoes notes gives user text result before now
MessageGoes notes gives user message (Ok done) before now = ⊥
MessageGoes notes gives user message (Err cause) before now = Refuses user message cause before now

-- Queries were answered in order, and all their answers were sent.
pub record Conversing {S : Type 0} (notes : List BookEntry → S → S → Type 0) (gives : ℕ → Type 0) (user : User) (before now : Moment S) : Type 0 where
  pub texts : List (List ℕ)
  pub turns : List Turn
  pub asked : List BookEntry
  pub came : List ℕ
  pub each : AllNotes user.pid texts turns asked
  pub input : before.unread ++ came ≡ flat_map query_bytes texts ++ now.unread
  pub passes : Passes came (bytes_of (pieces texts turns)) before.link now.link
  pub entries : notes asked before.store now.store
  pub hears : Hears (length turns) before.child now.child
  pub read : AllRead texts turns
  pub slept : AllSleep gives texts turns
  pub heeded : HeedInTurn turns before.child.told now.child.told
  pub cancelled : (turn : Turn) → Contains turns turn → IsCancelledTurn turn → was_given Cancel now.child.told

-- Queries were answered, maybe none; or this ended the session after them.
abbrev pub Converses : {S : Type 0} → (notes : List BookEntry → S → S → Type 0) → (gives : ℕ → Type 0) → User → Result (Unit {0}) Cause → (before now : Moment S) → Type 0
Converses notes gives user (Ok done) before now = Conversing notes gives user before now
Converses notes gives user (Err cause) before now = Conversed notes gives user cause before now

-- ---- of a store, by a pass of its own

module _ {S P : Type 0} (its : Store.Ghosts S P) (gives : ℕ → Type 0) (pass : P) where
  -- the queries, up to the end of the session
  abbrev pub Talked : Cause → (before now : Moment S) → Type 0
  Talked cause before now = Conversed its.notes gives (user_of (its.stamp before.store) (its.view pass)) cause before now

  -- the queries so far, or up to the end
  abbrev pub Talks : Result (Unit {0}) Cause → (before now : Moment S) → Type 0
  Talks result before now = Converses its.notes gives (user_of (its.stamp before.store) (its.view pass)) result before now

  -- one message
  abbrev pub Takes : FrontMessage → Result (Unit {0}) Cause → (before now : Moment S) → Type 0
  Takes message result before now = MessageGoes its.notes gives (user_of (its.stamp before.store) (its.view pass)) message result before now

  -- one query
  abbrev pub Replies : (text : List ℕ) → Result (Unit {0}) Cause → (before now : Moment S) → Type 0
  Replies text result before now = ReplyGoes its.notes gives (user_of (its.stamp before.store) (its.view pass)) text result before now
