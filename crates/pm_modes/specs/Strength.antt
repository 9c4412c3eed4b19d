-- How strong a request to shut down is, and which request takes the place of the one that stands.
use Rattle.std.specs.Prelude.{ℕ, Bool, true, false, Option, None, Some, nat_lt, if◌then◌else◌}
use Rattle.pm_modes.specs.declared.Mode.{Mode, TheVariants.{Smart, Fast, Immediate}}

-- the strength of a request; no request has strength 0
abbrev pub strength : Option Mode → ℕ
strength None = 0
strength (Some Smart) = 1
strength (Some Fast) = 2
strength (Some Immediate) = 3

-- what is asked for, where it is stronger than what stands
abbrev pub strengthen_of : Option Mode → Mode → Option Mode
strengthen_of standing asked = if nat_lt (strength standing) (strength (Some asked)) then Some asked else None

-- the standing request is for an immediate shutdown
abbrev pub is_immediate : Option Mode → Bool
is_immediate (Some Immediate) = true
is_immediate _ = false
