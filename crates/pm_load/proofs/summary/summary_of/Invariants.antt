use Rattle.std.{proofs.Common.{◌≡◌, ◌+ℤ◌, fold, Some}, specs.FinMap.entries}
use Rattle.pm_load.specs.Summary.{key_sum, last_key}
use Rattle.pm_load.proofs.summary.summary_of.Given as goal

abbrev pub invariant-loop-key : goal.invariant-loop-key
invariant-loop-key l = record {
  sum : fold (λ sum row. sum +ℤ row.0) l.key_sum l.key-iterator ≡ key_sum (entries l.rows);
  last : fold (λ last row. Some row.0) l.last_key l.key-iterator ≡ last_key (entries l.rows);
}
