use Rattle.std.proofs.Common.{◌≡◌, ◌++◌, None, map, replicate}
use Rattle.pm_halves.specs.declared.lot.Lot.TheVariants.{First, Second}
use Rattle.pm_halves.proofs.table.vacant_lots.Given as goal

abbrev pub invariant-loop : goal.invariant-loop
invariant-loop g l = l.lots.items ≡ map First (replicate l.counter None)

abbrev pub invariant-loop-2 : goal.invariant-loop-2
invariant-loop-2 g l = l.lots.items ≡ map First (replicate l.fn.firsts None) ++ map Second (replicate l.counter None)
