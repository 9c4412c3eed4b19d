-- Laws of the strength of modes.
use Rattle.std.{proofs.Common.{◌≡◌, false, Some, arith}, specs.Prelude.Option}
use Rattle.pm_modes.specs.{declared.Mode.Mode, Strength.{is_immediate, strengthen_of}}

-- a request that is stronger than what stands doesn't come after an immediate one
pub strengthens : (standing : Option Mode) (asked m : Mode) → strengthen_of standing asked ≡ Some m → is_immediate standing ≡ false
strengthens standing asked m is = grind arith
