use Rattle.std.proofs.Common.{◌≡◌, ◌-◌}
use Rattle.std.specs.FinMap as map
use Rattle.pm_rows.specs.Fold.{rows_of_pairs}
use Rattle.pm_record.specs.{Base.row_step, Repeated.through_at}
use Rattle.pm_record.proofs.base.read_rows.Given as goal

-- the rows listed so far and those that are left are all of them
abbrev pub invariant-loop-i : goal.invariant-loop-i
invariant-loop-i l = through_at row_step (l.count - l.i) (l.from, rows_of_pairs l.pairs.items) l.rest ≡ through_at row_step l.count (0, map.empty) l.initial.rest
