use Rattle.std.proofs.Common.{◌-◌, take}
use Rattle.pm_stage.specs.Naming.{Counts, times_at, times_named}
use Rattle.pm_stage.proofs.names.discount_commits.Given as goal

-- the changes of the commits so far are taken off
abbrev pub invariant-loop-at : goal.invariant-loop-at
invariant-loop-at l = Counts l.names (λ key. times_at l.fn.names key - times_named key (take l.at l.commits))
