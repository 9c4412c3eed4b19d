use Rattle.std.{proofs.Common.{◌≡◌, ◌++◌, All}, specs.FinMap.entries}
use Rattle.pm_record.specs.pm_rows.Typed.{IsTypedRow}
use Rattle.pm_log.proofs.base.pairs_of.Given as goal

abbrev pub invariant-loop-key : goal.invariant-loop-key
invariant-loop-key l = record {
  pairs : l.pairs.items ++ l.key-iterator ≡ entries l.rows;
  typed : All IsTypedRow l.key-iterator;
}
