use Rattle.std.{proofs.{Common.{sym, ap, ◌∙◌, w64}, lemmas.Int.to_z-of_z}, specs.Ordering.int_cmp}
use Rattle.std.specs.FinMap as map
use Rattle.std.specs.BTreeMap as tree
use Rattle.pm_rows.proofs.Entries.{get-of_table}
use Rattle.pm_rows.proofs.rows.Rows.get.Goals as goal

pub returns : goal.returns
returns c =
    c.get.ensures.value
    ∙ ap (tree.get int_cmp c.self.inside.table) (to_z-of_z w64 c.args.key c.ranges.key)
    ∙ sym (get-of_table c.self.inside.table c.args.key c.self.invariant.ordered)
    ∙ ap (λ m. map.get m c.args.key) c.self.view_is
