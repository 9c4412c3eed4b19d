use Rattle.std.{proofs.{Common.rules, lemmas.{Iterator.Adapters.{YieldsList-from_vec, fact_from_collect}, Result.IfOk-at_ok}}, specs.{Ordering.int_cmp, BTreeMap.IsFromIterResult}}
use Rattle.pm_rows.proofs.Entries.{table_made}
use Rattle.pm_rows.proofs.rows.Rows.of_pairs.Goals as goal

pub returns : goal.returns
returns c =
    let road = YieldsList-from_vec c.args.pairs.items c.into_iter.ensures.rest (search rules) in
    let made = fact_from_collect (IsFromIterResult int_cmp) c.collect.result c.collect.ensures.ran road in
    table_made c.in_ok-table.table c.args.pairs.items (IfOk-at_ok (IsFromIterResult int_cmp c.args.pairs.items) c.in_ok-table.was made)
