use Rattle.std.{proofs.Common.{◌≡◌, ◌<◌, ℕ, ℤ, List, length, arith, sym, subst, ap, ◌∙◌}, specs.{Prelude.All, Ordering.int_cmp, FinMap.{len-empty, len-entries}}}
use Rattle.std.specs.FinMap as map
use Rattle.pm_record.specs.{pm_rows.Fold.RowMap, StandsFor.IsRow}
use Rattle.pm_store_tests.proofs.files.what_is_put_is_what_is_read.Goals as goal

no_length : (rows : RowMap) → rows ≡ map.empty → map.len rows ≡ 0
no_length rows none = ap map.len none ∙ len-empty int_cmp (List ℕ)

no_rows : (rows : RowMap) → rows ≡ map.empty → All IsRow (map.entries rows)
no_rows rows none = λ k d lt. absurd (omega (arith, lt, len-entries rows, no_length rows none))

pub put_base-requires-clause-rows : goal.put_base-requires-clause-rows
put_base-requires-clause-rows g c = no_rows c.new.result c.new.ensures.none

pub put_base-requires-clause-few : goal.put_base-requires-clause-few
put_base-requires-clause-few g c = omega (arith, no_length c.new.result c.new.ensures.none)
