use Rattle.std.proofs.Common.{take}
use Rattle.pm_tables.specs.{Tables.committed, Fates.AreFates}
use Rattle.pm_tables.proofs.tables.Tables.fates.Given as goal

-- the fates by the changes so far
abbrev pub invariant-loop-change : goal.invariant-loop-change
invariant-loop-change l = AreFates l.self (committed l.self (take l.change-index l.change-items)) l.fates
