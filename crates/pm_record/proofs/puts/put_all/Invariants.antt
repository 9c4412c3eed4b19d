use Rattle.std.proofs.Common.{◌≡◌, take}
use Rattle.pm_rows.specs.Fold.{committed}
use Rattle.pm_record.proofs.puts.put_all.Given as goal

abbrev pub invariant-loop-change : goal.invariant-loop-change
invariant-loop-change l = l.rows ≡ committed l.fn.rows (take l.change-index l.change-items)
