use Rattle.std.{proofs.Common.{◌≡◌, ◌++◌}, specs.{Prelude.All, List.flat_map}}
use Rattle.std.specs.FinMap as map
use Rattle.pm_record.specs.{Spelling.row_bytes, StandsFor.IsRow}
use Rattle.pm_record.proofs.put.put_rows.Given as goal

abbrev pub invariant-loop-key : goal.invariant-loop-key
invariant-loop-key l = record {
  bytes : l.out ++ flat_map row_bytes l.key-iterator ≡ l.fn.out ++ flat_map row_bytes (map.entries l.rows);
  rows : All IsRow l.key-iterator;
}
