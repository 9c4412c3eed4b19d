-- Where a child stands with its client at a moment, and why it goes no further.
use Rattle.std.specs.Prelude.{◌≡◌, ℕ, List, [], ◌++◌, length, ◌<◌, Result, MatchResult, IfErr, IfSome, Option}
use Rattle.pm_child_life.specs.{Life.{Kill, Quit, Terminate, Signal, Told, nothing_told}, Attention.{Attention, was_given, HasAsked, IsAttentive}}
use Rattle.pm_session_exchange.specs.{declared.ending.Cause.{Cause, TheVariants.{LinkEnded, LinkFailed, TimedOut, DecisionRefused, GateRefused, ToldToTerminate, ToldToQuit, Killed}}, Exchange.{LinkView, Passes, HasEnded, HasFailed}}

-- the link, the bytes that came in and weren't looked at yet, the store, and the child
pub record Moment (S : Type 0) : Type 0 where
  pub link : LinkView
  pub unread : List ℕ
  pub store : S
  pub child : Attention

abbrev pub moment : {S : Type 0} → LinkView → List ℕ → S → Attention → Moment S
moment link unread store child = record { link = link; unread = unread; store = store; child = child }

-- Why a session goes no further, where that shows on the link or in what the child was told. A limit of time, a decision
-- and a gate show elsewhere.
abbrev pub ShowsCause : Cause → (before now : LinkView) → Attention → Type 0
ShowsCause LinkEnded before now child = HasEnded now.traffic
ShowsCause LinkFailed before now child = HasFailed before now
ShowsCause ToldToTerminate before now child = was_given Terminate child.told
ShowsCause (ToldToQuit reason) before now child = was_given (Quit reason) child.told
ShowsCause Killed before now child = was_given Kill child.told
ShowsCause TimedOut before now child = ⊥
ShowsCause DecisionRefused before now child = ⊥
ShowsCause (GateRefused refusal) before now child = ⊥
ShowsCause _ before now child = Unit {0}

-- by what waiting for the client or for the store, sending, and reading can be broken off
abbrev pub IsBreak : Cause → Type 0
IsBreak LinkEnded = Unit {0}
IsBreak LinkFailed = Unit {0}
IsBreak ToldToTerminate = Unit {0}
IsBreak (ToldToQuit reason) = Unit {0}
IsBreak Killed = Unit {0}
IsBreak _ = ⊥

-- it went on, or this broke it off and shows
abbrev pub GoesOrBreaks : {A : Type 0} → Result A Cause → (before now : LinkView) → Attention → Type 0
GoesOrBreaks result before now child = MatchResult result (λ done. Unit {0}) (λ cause. IsBreak cause × ShowsCause cause before now child)

-- it went on, or by what it goes no further shows
abbrev pub GoesOrShows : Result (Unit {0}) Cause → (before now : LinkView) → Attention → Type 0
GoesOrShows result before now child = IfErr result (λ cause. ShowsCause cause before now child)

-- a moment at which no store is used
abbrev pub outside : LinkView → List ℕ → Attention → Moment (Unit {0})
outside link unread child = moment link unread tt child

-- ---- the startup packet

-- Between two moments the child went on heeding what it was given, and was at the gate no more.
pub record Attends (before now : Attention) : Type 0 where
  pub asked : HasAsked 0 before.told now.told
  pub child : now.child ≡ before.child
  pub given : (signal : Signal) → was_given signal before.told → was_given signal now.told
  pub stands : IsAttentive before → IsAttentive now

-- ---- signals

-- whatever has passed on the link, this shows in what the child was told
abbrev pub IsHeeded : Cause → Attention → Type 0
IsHeeded cause child = (before now : LinkView) → ShowsCause cause before now child

-- by a signal alone
abbrev pub IsSignal : Cause → Type 0
IsSignal ToldToTerminate = Unit {0}
IsSignal (ToldToQuit reason) = Unit {0}
IsSignal Killed = Unit {0}
IsSignal _ = ⊥

-- by a signal that ends a wait for the log
abbrev pub IsWaitEnd : Cause → Type 0
IsWaitEnd (ToldToQuit reason) = Unit {0}
IsWaitEnd Killed = Unit {0}
IsWaitEnd _ = ⊥

-- it went on, or a signal ended it and shows
abbrev pub GoesOrStops : Result (Unit {0}) Cause → Attention → Type 0
GoesOrStops result child = IfErr result (λ cause. IsSignal cause × IsHeeded cause child)

-- it came to an answer, or what ended it shows in what the child was told
abbrev pub AnswersOrHeeds : {A : Type 0} → Result A Cause → Attention → Type 0
AnswersOrHeeds result child = IfErr result (λ cause. IsHeeded cause child)

-- the child was told nothing yet
abbrev pub IsUntold : Option Told → Type 0
IsUntold told = IfSome told (λ t. t ≡ nothing_told)

-- ---- bytes

-- Bytes came in after those that weren't looked at yet. Where the wait for so many of them was broken off, all are passed
-- over.
pub record Comes (wanted : ℕ) (result : Result (Unit {0}) Cause) (unread_before unread_now : List ℕ) (before now : LinkView) : Type 0 where
  pub came : List ℕ
  pub passes : Passes came [] before now
  pub unread : MatchResult result (λ done. unread_now ≡ unread_before ++ came) (λ cause. (unread_now ≡ []) × (length (unread_before ++ came) < wanted) × IsBreak cause)
