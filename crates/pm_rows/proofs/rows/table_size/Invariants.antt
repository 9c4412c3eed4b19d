use Rattle.std.proofs.Common.{◌≡◌, ◌+◌, ◌*◌, ◌^◌, ◌≤◌, All, length}
use Rattle.pm_rows.proofs.{Sizes.entries_size, Tables.IsTypedShort}
use Rattle.pm_rows.proofs.rows.table_size.Given as goal

-- the rows that are left take what the sum is short of, and where they are of their types all rows are
abbrev pub invariant-loop-key : goal.invariant-loop-key
invariant-loop-key l = record {
  sum : l.size + entries_size l.key-iterator ≡ entries_size l.table.entries;
  room : l.size + length l.key-iterator * (2 ^ 64 + 12) ≤ length l.table.entries * (2 ^ 64 + 12);
  typed : All IsTypedShort l.key-iterator → All IsTypedShort l.table.entries;
}
