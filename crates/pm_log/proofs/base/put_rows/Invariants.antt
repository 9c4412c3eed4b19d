use Rattle.std.{proofs.Common.{length, ◌-◌, ◌≡◌, ◌≤◌, ◌++◌, drop, vec_capacity}, specs.List.flat_map}
use Rattle.pm_record.specs.Spelling.{row_bytes}
use Rattle.pm_log.specs.Half.{most_in_piece}
use Rattle.pm_log.proofs.base.put_rows.Given as goal

abbrev pub invariant-loop-at : goal.invariant-loop-at
invariant-loop-at l = record {
  further : l.next ≤ l.at;
  within : l.at ≤ length l.rows;
  bytes : l.buffer.items ++ flat_map row_bytes (drop l.at l.rows) ≡ l.fn.buffer.items ++ flat_map row_bytes (drop l.next l.rows);
  few : length l.buffer.items ≤ most_in_piece;
  room : most_in_piece ≤ vec_capacity l.buffer;
}

abbrev pub decreases-loop-at : goal.decreases-loop-at
decreases-loop-at l = length l.rows - l.at
