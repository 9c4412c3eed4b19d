-- The links that a port gave and took back.
use Rattle.std.specs.Prelude.{ℕ, ◌-◌, List, [], ◌∷◌, ◌++◌, length, Option, None, Some, slice_get, unwrap_or}
use Rattle.pm_outside.specs.{declared.port.Accepted.{Accepted, TheVariants.{Link, NotYet, End, Failed}}, Traffic.Traffic}

-- a link that came back: its number, what had passed on it, if it tells, and how often it had failed when it was given
-- and when it came back
pub record Visit : Type 0 where
  pub number : ℕ
  pub traffic : Option Traffic
  pub faults_given : ℕ
  pub faults_back : ℕ

-- The links given, which number 1, 2, .. in this order, by how often each had failed by then; the links taken back, in
-- order; and after how many links the end was given first, if it was.
pub record Visits : Type 0 where
  pub given : List ℕ
  pub back : List Visit
  pub ended_behind : Option ℕ

-- no link was given
abbrev pub no_visits : Visits
no_visits = record { given = []; back = []; ended_behind = None }

-- the port was asked and answered so
abbrev pub after_accept : {L : Type 0} → (L → ℕ) → Visits → Accepted L → Visits
after_accept faults v (Link link) = record v { given = v.given ++ faults link ∷ [] }
after_accept faults v NotYet = v
after_accept faults v End = record v { ended_behind = Some (unwrap_or v.ended_behind (length v.given)) }
after_accept faults v Failed = v

-- how often the link of this number had failed when it was given
abbrev pub faults_when_given : Visits → ℕ → ℕ
faults_when_given v number = unwrap_or (slice_get v.given (number - 1)) 0

-- a link with this number, traffic and count of faults came back
abbrev pub after_done : Visits → ℕ → Option Traffic → ℕ → Visits
after_done v number traffic faults = record v {
  back = v.back ++ record { number = number; traffic = traffic; faults_given = faults_when_given v number; faults_back = faults } ∷ [];
}

-- a fact for the link that was given
abbrev pub IfLink : {L : Type 0} → Accepted L → (L → Type 0) → Type 0
IfLink (Link link) P = P link
IfLink NotYet P = Unit {0}
IfLink End P = Unit {0}
IfLink Failed P = Unit {0}
