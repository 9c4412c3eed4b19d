use Rattle.std.proofs.Common.{take}
use Rattle.pm_rows.specs.NetChanges.{IsNet}
use Rattle.pm_rows.proofs.apply.net_changes_of.Given as goal

-- the net of the changes so far
abbrev pub invariant-loop-change : goal.invariant-loop-change
invariant-loop-change l = IsNet (take l.change-index l.change-items) l.net
