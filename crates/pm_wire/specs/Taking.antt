-- Words on what a reader answers.
use Rattle.std.specs.Prelude.{ℕ}
use Rattle.pm_wire.specs.declared.take.Take.{Take, TheVariants.Whole}

-- the fact, where the answer is a value and the number of its bytes
abbrev pub IfWhole : {T : Type 0} → Take T → (T → ℕ → Type 0) → Type 0
IfWhole (Whole value used) P = P value used
IfWhole _ P = Unit {0}
