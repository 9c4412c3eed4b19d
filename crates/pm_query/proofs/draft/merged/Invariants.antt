use Rattle.std.{proofs.Common.{◌+◌, length}, specs.Map.Iter.deref_pair}
use Rattle.pm_rows.specs.RowsIter.{shown_row}
use Rattle.pm_query.{specs.Merge.laid, proofs.Merging.{left, IsMerging}}
use Rattle.pm_query.proofs.draft.merged.Given as goal

abbrev pub invariant-loop-row : goal.invariant-loop-row
invariant-loop-row l = IsMerging (left shown_row l.row l.rows) (left deref_pair l.change l.changes) l.listing (laid l.fn.rows l.fn.changes)

abbrev pub decreases-loop-row : goal.decreases-loop-row
decreases-loop-row l = length (left shown_row l.row l.rows) + length (left deref_pair l.change l.changes)
