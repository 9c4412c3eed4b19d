-- Laws of what is counted as one or none.
use Rattle.std.proofs.Common.{◌≡◌, ℕ, ◌≤◌, Bool, true, false, arith}
use Rattle.pm_supervisor.specs.Children.{one_if}

pub at_most_one : (b : Bool) → one_if b ≤ 1
at_most_one true = omega arith
at_most_one false = omega arith

pub none_counted : (n : ℕ) (b : Bool) → n ≡ one_if b → b ≡ false → n ≡ 0
none_counted n true is isnt = absurd (cc)
none_counted n false is isnt = is
