use Rattle.std.proofs.Common.{◌≡◌, ◌++◌}
use Rattle.pm_tables.specs.{Held.{afters, IsReady}, Holding.{Holds, planned}}
use Rattle.pm_tables.proofs.tables.Tables.hold_all.Given as goal

-- the tables so far are held, and what is planned for the others is left
abbrev pub invariant-loop-name : goal.invariant-loop-name
invariant-loop-name l = record {
  held : Holds l.fn.self l.self l.touched.items;
  ready : IsReady l.self (afters l.touched.items);
  all : afters l.touched.items ++ planned l.fn.self l.name-iterator ≡ planned l.fn.self l.fn.fates.entries;
}
