-- The laws, one for each function of `laws.rt`, whose contract it is.
use Rattle.std.specs.Prelude.{◌≡◌, ◌⊎◌, ℕ, List, ◌++◌}
use Rattle.pm_session.specs.{pm_query.{declared.book.BookEntry.BookEntry, Book.{Base, IsLegal, history_of}, Calls.User}, pm_session_exchange.Sent.Turn, Session.{IsSession, between}}
use Rattle.pm_session_answers.specs.{Own.{StandIn, entries_by}, Replies.{IsAnswered, IsTurnedOff, Talk}}

-- it noted these entries, and what passed on its link is its text, or a front of that for whatever cause
abbrev pub IsSessionOf : Talk → User → List Turn → List BookEntry → Type 0
IsSessionOf talk user turns noted =
    IsSession {S = Unit {0}} (λ entries _ _. entries ≡ noted) talk.decision user talk.key turns talk.ending (Unit {0}) (between talk.link tt tt)

abbrev pub RepliesAreRight : Type 0
RepliesAreRight =
    (base : Base) (front part : List BookEntry) (talk : Talk) (user : User) (turns : List Turn) (noted : List BookEntry)
    → IsLegal base (front ++ part) → StandIn talk.pid noted part → user.pid ≡ talk.pid → IsSessionOf talk user turns noted
    → IsTurnedOff talk ⊎ IsAnswered (history_of base (front ++ part)) talk

abbrev pub OwnEntriesStand : Type 0
OwnEntriesStand = (who : ℕ) (book noted : List BookEntry) → entries_by who book ≡ noted → StandIn who noted book
