use Rattle.std.proofs.Common.{◌≡◌, fold}
use Rattle.pm_rows.specs.NetChanges.{settled, IsReady}
use Rattle.pm_rows.proofs.rows.Rows.settle.Given as goal

-- what is left to settle makes of the rows now what all of it makes of the rows before
abbrev pub invariant-loop-key : goal.invariant-loop-key
invariant-loop-key l = record {
  rest : fold settled l.self l.key-iterator ≡ fold settled l.fn.self l.fn.net.entries;
  ready : IsReady l.self l.key-iterator;
}
