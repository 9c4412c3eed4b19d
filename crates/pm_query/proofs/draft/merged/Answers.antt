use Rattle.std.{proofs.Common.{sym, ap, ◌∙◌}, specs.{Ordering.ordering_reverse, Cmp.int_cmp_total, Map.Iter.deref_pair}}
use Rattle.pm_rows.specs.RowsIter.{shown_row}
use Rattle.pm_query.proofs.Merging.{below_ahead, below_none, take_row, take_change, take_both}
use Rattle.pm_query.proofs.draft.merged.Goals as goal

pub loop-row-preserved-in-None-Some : goal.loop-row-preserved-in-None-Some
loop-row-preserved-in-None-Some c =
    take_change deref_pair c.loop-row.change _ c.loop-row.changes _ c.in-None-Some.next c.in-None-Some.is-1 c.next-change-in-None-Some.ensures.steps _ c.loop-row.listing _ _
    (below_none shown_row c.loop-row.row c.loop-row.rows _ c.in-None-Some.is-0) c.in_ok-push_change-in-None-Some.ensures c.loop-row.invariant

pub loop-row-preserved-in-Less : goal.loop-row-preserved-in-Less
loop-row-preserved-in-Less c =
    take_row shown_row c.loop-row.row _ c.loop-row.rows _ c.in-Some-Some.next c.in-Some-Some.is-0 c.next-row-in-Less.ensures.steps _ c.loop-row.listing _ _
    (below_ahead deref_pair c.loop-row.change c.loop-row.changes _ c.in-Some-Some.next_change c.in-Some-Some.is-1 (sym c.in-Less.ensures) c.loop-row.invariant.changes_rise)
    c.in_ok-push-in-Less.ensures c.loop-row.invariant

pub loop-row-preserved-in-Equal : goal.loop-row-preserved-in-Equal
loop-row-preserved-in-Equal c =
    take_both shown_row deref_pair c.loop-row.row _ c.loop-row.change _ c.loop-row.rows _ c.loop-row.changes _ c.in-Some-Some.next c.in-Some-Some.next_change c.loop-row.listing _ _
    c.in-Some-Some.is-0 c.in-Some-Some.is-1 c.next-row-in-Equal.ensures.steps c.next-change-in-Equal.ensures.steps (sym c.in-Equal.ensures)
    c.in_ok-push_change-in-Equal.ensures c.loop-row.invariant

pub loop-row-preserved : goal.loop-row-preserved
loop-row-preserved c =
    take_change deref_pair c.loop-row.change _ c.loop-row.changes _ c.in-Some-Some.next_change c.in-Some-Some.is-1 c.next-change-in-Greater.ensures.steps _ c.loop-row.listing _ _
    (below_ahead shown_row c.loop-row.row c.loop-row.rows _ c.in-Some-Some.next c.in-Some-Some.is-0 (int_cmp_total.antisymm c.in-Some-Some.next_change.0.now c.in-Some-Some.next.0 ∙ ap ordering_reverse (sym c.in-Greater.ensures)) c.loop-row.invariant.rows_rise)
    c.in_ok-push_change-in-Greater.ensures c.loop-row.invariant
