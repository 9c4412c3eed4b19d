-- A session step by step: where it stands at a moment, and what passes between two.
use Rattle.std.specs.{Prelude.{◌≡◌, ◌⊎◌, ℕ, List, [], ◌++◌, length, Contains}, List.flat_map}
use Rattle.pm_session_exchange.specs.{pm_query.{declared.book.BookEntry.BookEntry, Calls.User}, pm_child_life.{Life.Cancel, Attention.{Hears, was_given}}, declared.ending.Cause.Cause, Exchange.{Passes, CutsOff}, Sent.{Turn, bytes_of}, Queries.IsCancelledTurn, Moments.Moment}
use Rattle.pm_session.specs.{Heeding.{HeedInTurn, AllRead}, Session.{AllNotes, AllSleep, EndsAt, MayPassOver, pieces, query_bytes}}

-- A greeted client's queries were answered in order, each with its turn, up to the end: all that was sent for them, or a
-- front of it where the end cuts off.
pub record Conversed {S : Type 0} (notes : List BookEntry → S → S → Type 0) (gives : ℕ → Type 0) (user : User) (cause : Cause) (before now : Moment S) : Type 0 where
  pub texts : List (List ℕ)
  pub turns : List Turn
  pub last : List ℕ
  pub asked : List BookEntry
  pub ended : List BookEntry
  pub came : List ℕ
  pub went : List ℕ
  pub missing : List ℕ
  pub each : AllNotes user.pid texts turns asked
  pub ends : EndsAt user cause last ended
  pub input : before.unread ++ came ≡ flat_map query_bytes texts ++ last ++ now.unread
  pub passes_over : MayPassOver cause now.unread
  pub output : bytes_of (pieces texts turns) ≡ went ++ missing
  pub cut : (missing ≡ []) ⊎ CutsOff cause
  pub passes : Passes came went before.link now.link
  pub entries : notes (asked ++ ended) before.store now.store
  pub hears : Hears (length turns) before.child now.child
  pub read : AllRead texts turns
  pub slept : AllSleep gives texts turns
  pub heeded : HeedInTurn turns before.child.told now.child.told
  pub cancelled : (turn : Turn) → Contains turns turn → IsCancelledTurn turn → was_given Cancel now.child.told
