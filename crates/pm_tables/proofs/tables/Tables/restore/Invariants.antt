use Rattle.std.{proofs.Common.{◌≡◌, fold, length}, specs.Vec.Iter.{into_iter_items, into_iter_len}}
use Rattle.pm_tables.specs.Held.{befores, given, IsReady}
use Rattle.pm_tables.proofs.tables.Tables.restore.Given as goal

-- what is left to give makes of the tables now what all of it makes of the tables before
abbrev pub invariant-loop-name : goal.invariant-loop-name
invariant-loop-name l = record {
  rest : fold given l.self (befores (into_iter_items l.name-iterator)) ≡ fold given l.fn.self (befores l.fn.touched.items);
  len : into_iter_len l.name-iterator ≡ length (into_iter_items l.name-iterator);
  ready : IsReady l.self (befores (into_iter_items l.name-iterator));
}
