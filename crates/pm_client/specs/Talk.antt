-- A client's talk with a server: what it sends, reads and shows, and why it ends.
use Rattle.std.specs.{Prelude.{◌≡◌, ◌≤◌, ℕ, ◌+◌, true, false, List, [], ◌∷◌, ◌++◌, length, take, Result, Ok, Err}, List.{count_by, flat_map}}
use Rattle.pm_outside.specs.pm_disk.Cause.{Rose}
use Rattle.pm_wire_back.specs.{pm_wire.{Backend.{BackMessage, Ready, IsBack}, Stream.{IsStream, HasNoMessage}}, Failing.BackFails}
use Rattle.pm_wire_front.specs.Requests.{all_sent, query, start_packet}
use Rattle.pm_client.specs.{declared.played.Played.{Played, TheVariants.{Done, LinkFault, OutFault, BadReply, NoMemory}}, Show.{is_ready, lines_of}, Sides.{Carries, HasEnded, Prints, Sides}}

-- how many answers are at their end
abbrev pub answers_in : List BackMessage → ℕ
answers_in messages = count_by is_ready messages

-- so many answers, and nothing after the last
pub record AreAnswers (count : ℕ) (messages : List BackMessage) : Type 0 where
  pub front : List BackMessage
  pub last : messages ≡ front ++ Ready ∷ []
  pub number : answers_in messages ≡ count

-- the client has sent a start packet and a query for each answer but the last one, if it has one; that isn't there yet
pub record HasAsked (user : List ℕ) (texts : List (List ℕ)) (answered : ℕ) (went : List ℕ) : Type 0 where
  pub within : answered ≤ length texts
  pub went_is : went ≡ start_packet user ++ flat_map query (take answered texts)

-- Why a talk ends where not all was asked and answered: what was read ends with these bytes that are no whole message, and
-- this of what was read isn't shown.
abbrev pub IsCutOff : Played → (unread unshown : List ℕ) → (before now : Sides) → Type 0
IsCutOff (Done false) unread unshown before now = ⊥
IsCutOff (Done true) unread unshown before now = (unshown ≡ []) × HasEnded now.link × HasNoMessage IsBack unread
IsCutOff LinkFault unread unshown before now = (unshown ≡ []) × Rose before.link.faults now.link.faults
IsCutOff OutFault unread unshown before now = Rose before.sink.faults now.sink.faults
IsCutOff (BadReply fault) unread unshown before now = (unshown ≡ []) × BackFails unread fault
IsCutOff NoMemory unread unshown before now = Unit {0}

-- How it ends: all was sent, and as many answers were read as there are queries and one more, for the start packet, and shown; or
-- it was cut off. Where that was while an answer was awaited, all up to its query was sent.
abbrev pub EndsBy : Played → (user : List ℕ) → (texts : List (List ℕ)) → List BackMessage → (went unsent : List ℕ) → Type 0
EndsBy (Done false) user texts messages went unsent = (unsent ≡ []) × AreAnswers (length texts + 1) messages
EndsBy (Done true) user texts messages went unsent = HasAsked user texts (answers_in messages) went
EndsBy (BadReply fault) user texts messages went unsent = HasAsked user texts (answers_in messages) went
EndsBy _ user texts messages went unsent = Unit {0}

-- all of what was read is shown, or it was cut off
abbrev pub IsWholeOr : Played → (unread unshown : List ℕ) → (before now : Sides) → Type 0
IsWholeOr (Done false) unread unshown before now = unshown ≡ []
IsWholeOr played unread unshown before now = IsCutOff played unread unshown before now

-- A talk from one moment to another. These bytes came in: these messages and what comes after them. These bytes went out, of all
-- that is to be sent, and this was shown, of the messages' lines.
pub record HasPlayed (user : List ℕ) (texts : List (List ℕ)) (played : Played) (before now : Sides) : Type 0 where
  pub messages : List BackMessage
  pub came : List ℕ
  pub unread : List ℕ
  pub went : List ℕ
  pub unsent : List ℕ
  pub shown : List ℕ
  pub unshown : List ℕ
  pub carries : Carries came went before.link now.link
  pub prints : Prints shown before.sink now.sink
  pub read : IsStream IsBack came messages unread
  pub asked : all_sent user texts ≡ went ++ unsent
  pub lines : lines_of messages ≡ shown ++ unshown
  pub ends : EndsBy played user texts messages went unsent
  pub whole : IsWholeOr played unread unshown before now

abbrev pub played_of : Result (Unit {0}) Played → Played
played_of (Ok done) = Done false
played_of (Err played) = played
