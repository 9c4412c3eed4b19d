-- The faults of one part of the outside.
use Rattle.std.specs.Prelude.{◌≡◌, ℕ, Option, Some, IfSome}
use Rattle.pm_outside_faults.specs.declared.faults.Faults.{Faults}

-- how many there were, up to 2^64 - 1
abbrev pub count_of : {F : Type 0} → Faults F → ℕ
count_of faults = faults.count

-- the first of them
abbrev pub first_of : {F : Type 0} → Faults F → Option F
first_of faults = faults.first

-- a first fault stays the first
abbrev pub StaysFirst : {F : Type 0} → (old new : Option F) → Type 0
StaysFirst old new = IfSome old (λ fault. new ≡ Some fault)
