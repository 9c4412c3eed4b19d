use Rattle.std.{proofs.Common.{◌≡◌, ◌++◌, List, length}, specs.List.AllByRecursion}
use Rattle.pm_startup.specs.{Parameters.{Parameter, IsParameter, pairs}, Reading.Tells}
use Rattle.pm_startup.proofs.parameters.settings_of.Given as goal

abbrev pub invariant-pairs : goal.invariant-pairs
invariant-pairs l = (front : List Parameter) × AllByRecursion IsParameter front × (l.body ≡ pairs front ++ l.rest) × Tells l.settings front

abbrev pub decreases-pairs : goal.decreases-pairs
decreases-pairs l = length l.rest
