-- Which moments a clock in memory gives.
use Rattle.std.specs.Prelude.{◌≡◌, ℕ, ◌^◌, ◌<◌, ◌≤◌, Option, None, Some}
use Rattle.pm_outside.specs.declared.mem_clock.MemClock.{MemClock}

-- one moment where it stands still, and else each from the first on
abbrev pub IsFrom : {T : Type 0} → Option T → ℕ → ℕ → Type 0
IsFrom None start moment = moment ≡ start
IsFrom (Some passed) start moment = (start ≤ moment) × (moment < 2 ^ 64)

abbrev pub IsMoment : {R : Type 0} → MemClock R → ℕ → Type 0
IsMoment clock moment = IsFrom clock.passed clock.start moment
