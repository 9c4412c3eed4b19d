use Rattle.std.{proofs.{Common.{ℤ, w64, is_some, ap, ◌∙◌}, lemmas.Int.to_z-of_z}, specs.Ordering.int_cmp}
use Rattle.std.specs.BTreeMap as tree
use Rattle.pm_stage.{specs.Naming.{is_named, times_named}, proofs.Counting.is_counted}
use Rattle.pm_stage.proofs.Stage.names.Goals as goal

pub returns : goal.returns
returns c =
    let key = c.args.key in
    c.contains_key.ensures
    ∙ ap (λ (k : ℤ). is_some (tree.get int_cmp c.self.inside.names k)) (to_z-of_z w64 key c.ranges.key)
    ∙ ap is_some (c.self.invariant.2 key)
    ∙ is_counted (times_named key c.self.inside.commits.items)
    ∙ ap (λ (w : _). is_named key w.commits) c.self.view_is
