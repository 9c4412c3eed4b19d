use Rattle.std.{proofs.{Common.{sym, ap, ◌∙◌, w64}, lemmas.Int.to_z-of_z}, specs.Ordering.int_cmp}
use Rattle.std.specs.FinMap as map
use Rattle.std.specs.BTreeMap as tree
use Rattle.pm_query.proofs.Overlay.{get-changed, get-unchanged}
use Rattle.pm_query.proofs.draft.Draft.get.Goals as goal

pub returns-in-Some : goal.returns-in-Some
returns-in-Some c =
    let found = ap (tree.get int_cmp c.self.inside.changes) (sym (to_z-of_z w64 c.args.key c.ranges.key)) ∙ sym c.in-Some.ensures.value in
    c.as_ref.ensures.value
    ∙ sym (get-changed c.self.inside.table.now c.self.inside.changes c.args.key c.in-Some.value.now found)
    ∙ ap (λ m. map.get m c.args.key) c.self.view_is

pub returns-in-None : goal.returns-in-None
returns-in-None c =
    let missed = ap (tree.get int_cmp c.self.inside.changes) (sym (to_z-of_z w64 c.args.key c.ranges.key)) ∙ sym c.in-None.ensures.value in
    c.get-in-None.ensures ∙ ap (map.get c.self.inside.table.now) (to_z-of_z w64 c.args.key c.ranges.key)
    ∙ sym (get-unchanged c.self.inside.table.now c.self.inside.changes c.args.key missed)
    ∙ ap (λ m. map.get m c.args.key) c.self.view_is
