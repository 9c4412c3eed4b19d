-- How an answer is read and shown, step by step.
use Rattle.std.specs.Prelude.{◌≡◌, ◌≢◌, ◌<◌, ◌≤◌, ℕ, Bool, true, false, List, [], ◌++◌, length, Result, Ok, Err}
use Rattle.pm_outside.specs.pm_disk.Cause.{Rose}
use Rattle.pm_wire.specs.{Backend.{BackMessage, IsBack}, Stream.IsStream}
use Rattle.pm_client.specs.{declared.played.Played.{Played, TheVariants.{Done, LinkFault, OutFault, NoMemory}}, Show.lines_of, Sides.{Carries, HasEnded, LinkView, Prints, Sides}, Talk.{AreAnswers, IsCutOff, answers_in}}

-- ---- reading

-- why nothing comes
abbrev pub IsNoMore : Played → (before now : LinkView) → Type 0
IsNoMore (Done true) before now = HasEnded now
IsNoMore LinkFault before now = Rose before.faults now.faults
IsNoMore NoMemory before now = Unit {0}
IsNoMore _ before now = ⊥

-- whether bytes came, or why none will
abbrev pub IsGot : Result Bool Played → (came : List ℕ) → (before now : LinkView) → Type 0
IsGot (Ok true) came before now = came ≢ []
IsGot (Ok false) came before now = came ≡ []
IsGot (Err played) came before now = (came ≡ []) × IsNoMore played before now

-- what came comes after what wasn't looked at yet
pub record Reads (result : Result Bool Played) (unread_before unread_now : List ℕ) (before now : LinkView) : Type 0 where
  pub came : List ℕ
  pub unread : unread_now ≡ unread_before ++ came
  pub carries : Carries came [] before now
  pub got : IsGot result came before now

-- the same of a read that waits
abbrev pub IsReceived : Result (Unit {0}) Played → (came : List ℕ) → (before now : LinkView) → Type 0
IsReceived (Ok done) came before now = came ≢ []
IsReceived (Err played) came before now = (came ≡ []) × IsNoMore played before now

pub record Receives (result : Result (Unit {0}) Played) (unread_before unread_now : List ℕ) (before now : LinkView) : Type 0 where
  pub came : List ℕ
  pub unread : unread_now ≡ unread_before ++ came
  pub carries : Carries came [] before now
  pub why : IsReceived result came before now

-- so many bytes stand, or fewer stand and no more come
abbrev pub IsAwaited : ℕ → Result (Unit {0}) Played → (unread_now : List ℕ) → (before now : LinkView) → Type 0
IsAwaited wanted (Ok done) unread_now before now = wanted ≤ length unread_now
IsAwaited wanted (Err played) unread_now before now = (length unread_now < wanted) × IsNoMore played before now

pub record Awaits (wanted : ℕ) (result : Result (Unit {0}) Played) (unread_before unread_now : List ℕ) (before now : LinkView) : Type 0 where
  pub came : List ℕ
  pub unread : unread_now ≡ unread_before ++ came
  pub carries : Carries came [] before now
  pub why : IsAwaited wanted result unread_now before now

-- ---- an answer

-- So far these messages were read, none of which ends an answer. These lines of them stand on the page, and aren't shown yet.
pub record Hearing (page unread_before unread_now : List ℕ) (before now : Sides) : Type 0 where
  pub messages : List BackMessage
  pub came : List ℕ
  pub shown : List ℕ
  pub carries : Carries came [] before.link now.link
  pub prints : Prints shown before.sink now.sink
  pub read : IsStream IsBack (unread_before ++ came) messages unread_now
  pub lines : lines_of messages ≡ shown ++ page
  pub none : answers_in messages ≡ 0

-- no answer is at its end, unless its lines couldn't be shown
abbrev pub IsUnanswered : Played → List BackMessage → Type 0
IsUnanswered OutFault messages = Unit {0}
IsUnanswered _ messages = answers_in messages ≡ 0

abbrev pub IsHeard : Result (Unit {0}) Played → List BackMessage → (unread unshown : List ℕ) → (before now : Sides) → Type 0
IsHeard (Ok done) messages unread unshown before now = (unshown ≡ []) × AreAnswers 1 messages
IsHeard (Err played) messages unread unshown before now = IsUnanswered played messages × IsCutOff played unread unshown before now

-- One answer was read and shown, or the talk was cut off within it.
pub record Hears (result : Result (Unit {0}) Played) (unread_before unread_now : List ℕ) (before now : Sides) : Type 0 where
  pub messages : List BackMessage
  pub came : List ℕ
  pub shown : List ℕ
  pub unshown : List ℕ
  pub carries : Carries came [] before.link now.link
  pub prints : Prints shown before.sink now.sink
  pub read : IsStream IsBack (unread_before ++ came) messages unread_now
  pub lines : lines_of messages ≡ shown ++ unshown
  pub heard : IsHeard result messages unread_now unshown before now

-- ---- a request with its answer

abbrev pub IsAsked : Result (Unit {0}) Played → (missing : List ℕ) → Type 0
IsAsked (Err LinkFault) missing = Unit {0}
IsAsked _ missing = missing ≡ []

-- The request was sent and its answer heard, or the talk was cut off: where the link didn't fail, all of the request was sent.
pub record Asks (result : Result (Unit {0}) Played) (request unread_before unread_now : List ℕ) (before now : Sides) : Type 0 where
  pub messages : List BackMessage
  pub came : List ℕ
  pub went : List ℕ
  pub missing : List ℕ
  pub shown : List ℕ
  pub unshown : List ℕ
  pub carries : Carries came went before.link now.link
  pub prints : Prints shown before.sink now.sink
  pub read : IsStream IsBack (unread_before ++ came) messages unread_now
  pub whole : request ≡ went ++ missing
  pub lines : lines_of messages ≡ shown ++ unshown
  pub asked : IsAsked result missing
  pub heard : IsHeard result messages unread_now unshown before now
