-- What passed on a session's link, told with less of why it was cut off.
use Rattle.std.proofs.Common.{◌≡◌, ◌⊎◌, inl, inr, ℕ, List, [], Option}
use Rattle.pm_outside.specs.Traffic.{Traffic}
use Rattle.pm_session.specs.Session.{HasPassed}

module _ {A B : Type 0} where
  why : (missing : List ℕ) → (missing ≡ []) ⊎ (A ⊎ B) → (missing ≡ []) ⊎ (A ⊎ Unit {0})
  why missing (inl none) = inl none
  why missing (inr (inl cut)) = inr (inl cut)
  why missing (inr (inr failed)) = inr (inr tt)

  pub passed_anyhow : (came_in whole : List ℕ) (link : Option Traffic) → HasPassed (A ⊎ B) came_in whole link → HasPassed (A ⊎ Unit {0}) came_in whole link
  passed_anyhow came_in whole link passed = record { missing = passed.missing; read = passed.read; sent = passed.sent; cause = why passed.missing passed.cause }
