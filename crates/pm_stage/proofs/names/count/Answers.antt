use Rattle.std.{proofs.{Common.{◌≡◌, ℕ, ℤ, Option, w64, ap, ◌∙◌, arith}, lemmas.Int.to_z-of_z}, specs.{Prelude.unwrap_or, Ordering.int_cmp}}
use Rattle.std.specs.BTreeMap as tree
use Rattle.pm_stage.specs.Naming.{times_at}
use Rattle.pm_stage.proofs.names.count.Goals as goal

pub overflow_add-times : goal.overflow_add-times
overflow_add-times c =
    let same : c.unwrap_or-times.result ≡ times_at c.args.names.now c.args.key =
    c.unwrap_or-times.ensures ∙ ap (λ (o : Option ℕ). unwrap_or o 0) (c.copied.ensures ∙ c.get.ensures.value ∙ ap (λ (k : ℤ). tree.get int_cmp c.args.names.now k) (to_z-of_z w64 c.args.key c.ranges.key)) in
    omega (arith, c.requires.room)
