use Rattle.std.{proofs.Common.{◌≡◌, IfOk, sym, ap, subst, ◌∙◌}, specs.{Ordering.int_cmp, FinMap.{is_sorted, entries_sorted}}}
use Rattle.std.specs.FinMap as map
use Rattle.pm_query.{specs.Merge.laid, proofs.Shown.entries-laid_over}
use Rattle.pm_rows.{specs.pm_facts.Bools.true_of, proofs.RowLaws.rises}
use Rattle.pm_query.proofs.draft.Draft.list.Goals as goal

pub merged-requires : goal.merged-requires
merged-requires c = record {
  rows = ap (is_sorted int_cmp) c.iter.ensures.rest ∙ true_of _ (entries_sorted c.self.inside.table.now);
  changes = ap (is_sorted int_cmp) c.iter-2.ensures.rest ∙ rises c.self.inside.changes.entries c.self.invariant.ordered;
  empty = c.in_ok-listing.ensures;
}

pub returns : goal.returns
returns c =
    let all = ap (λ es. laid es c.iter-2.result) c.iter.ensures.rest
    ∙ ap (laid (map.entries c.self.inside.table.now)) c.iter-2.ensures.rest
    ∙ sym (entries-laid_over c.self.inside.table.now c.self.inside.changes.entries)
    ∙ ap map.entries c.self.view_is in
    subst (λ es. IfOk c.merged.result (λ pairs. pairs ≡ es)) all c.merged.ensures
