use Rattle.std.proofs.Common.{◌-◌, take}
use Rattle.pm_stage.specs.Naming.{Counts, times_at, times_in}
use Rattle.pm_stage.proofs.names.discount_all.Given as goal

-- the changes so far are taken off
abbrev pub invariant-loop-at : goal.invariant-loop-at
invariant-loop-at l = Counts l.names (λ key. times_at l.fn.names key - times_in key (take l.at l.changes))
