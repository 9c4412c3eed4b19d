use Rattle.std.{proofs.Common.{ℕ, ◌<◌, get_or}, specs.Option.IsSome}
use Rattle.pm_rows.specs.{declared.commit.Change.{Change}, Fold.{value_left}}
use Rattle.pm_record.proofs.puts.is_puts.Given as goal

abbrev pub invariant-loop-change : goal.invariant-loop-change
invariant-loop-change l = (k : ℕ) (d : Change) → k < l.change-index → IsSome (value_left (get_or l.change-items k d))
