-- Which connection is whose, as clients saw them.
use Rattle.std.specs.{Prelude.{◌≡◌, ℕ, ◌+◌, List, Option, Some, IfSome, slice_get}, List.Contains}
use Rattle.pm_promises.specs.pm_session_answers.Replies.{Talk}
use Rattle.pm_postmaster.specs.{pm_outside.Visits.{Visit, Visits}, Links.AcceptedConnection}

-- It is the client's side of a connection that was accepted: under its pid and decision, with what had passed on the link of this
-- number when that came back.
pub record IsOverLink (n : ℕ) (connection : AcceptedConnection) (visits : Option Visits) (talk : Talk) : Type 0 where
  pub pid : talk.pid ≡ connection.pid
  pub decision : talk.decision ≡ connection.decision
  pub back : IfSome visits (λ v. (visit : Visit) × Contains v.back visit × (visit.number ≡ n) × (visit.traffic ≡ talk.link))

-- the n-th of these connections is one of the talks, over the n-th link
abbrev pub AreOverLinks : List AcceptedConnection → Option Visits → List Talk → Type 0
AreOverLinks connections visits talks =
    (n : ℕ) (connection : AcceptedConnection) → slice_get connections n ≡ Some connection
    → (talk : Talk) × Contains talks talk × IsOverLink (n + 1) connection visits talk
