-- What a child does last on its line.
use Rattle.std.specs.Prelude.{◌≡◌, ◌⊎◌, ℕ, List, [], ◌++◌, Bool, false, None, Some, IfSome, IsTrue}
use Rattle.pm_exit.specs.declared.child.Status.TheVariants as statuses
use Rattle.pm_session_exchange.specs.{declared.ending.Cause.Cause, Exchange.{Passes, HasFailed, IsSound}, Attention.ends_of, Ends.status_by, Moments.Moment}
use Rattle.pm_child_life.specs.{declared.standing.Standing.Standing, Attention.Hears}

-- ---- the last words

-- these words were said, or a front of them: the child was killed, or the link failed
pub record SaysLast (words : List ℕ) (before now : Moment (Unit {0})) : Type 0 where
  pub went : List ℕ
  pub missing : List ℕ
  pub whole : words ≡ went ++ missing
  pub cut : (missing ≡ []) ⊎ (IsTrue now.child.standing.kill ⊎ HasFailed before.link now.link)
  pub passes : Passes [] went before.link now.link
  pub hears : Hears 0 before.child now.child
  pub silent : words ≡ [] → now ≡ before
  pub sound : (ended : Bool) → IsSound ended before.link.traffic → IfSome now.link.traffic (λ t. t.went_on ≡ false)

-- By what a session ends in place of a cause, where this stands: by what was told, where the child would exit as if nothing
-- had happened.
abbrev pub IsLastCause : Standing → (cause ends : Cause) → Type 0
IsLastCause standing cause ends =
    ((ends ≡ cause) × (status_by cause ≡ statuses.Code 0 → ends_of standing ≡ None)) ⊎ ((status_by cause ≡ statuses.Code 0) × (ends_of standing ≡ Some ends))
