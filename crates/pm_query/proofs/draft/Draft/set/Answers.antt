use Rattle.std.{proofs.{Common.{◌≡◌, ℕ, w64, ap, subst, ◌∙◌, arith, SomeIff, Option, Some}, lemmas.Int.to_z-of_z}, specs.FinMap.len}
use Rattle.std.specs.FinMap as map
use Rattle.pm_rows.specs.Size.{size_of}
use Rattle.pm_query.{specs.Changes.{rows_at, size_at}, proofs.{Overlay.laid_over-updated, Sizes.{size-left_at, len-left_at}}}
use Rattle.pm_query.proofs.draft.Draft.set.Goals as goal

some_of : (o : Option ℕ) (P : Type 0) (v n : ℕ) → o ≡ Some n → SomeIff o P v → n ≡ v
some_of o P v n e h = let at : SomeIff (Some n) P v = subst (λ o. SomeIff o P v) e h in at.1

pub invariant_of-self-2 : goal.invariant_of-self-2
invariant_of-self-2 c =
    let now = laid_over-updated c.self.inside.table.now c.args.self.now c.self.inside.changes c.insert.new.self c.args.key _ c.args.value c.self.view_is (to_z-of_z w64 c.args.key c.ranges.key) c.in_ok-insert.ensures.updates in
    let same = to_z-of_z w64 c.args.key c.ranges.key in
    let count = some_of _ _ _ _ c.in_ok-count.ensures.ok_part c.checked_add.ensures in
    let size = some_of _ _ _ _ c.in_ok-size.ensures.ok_part c.checked_add-2.ensures in
    record {
      ordered = c.insert.ensures.ordered;
      counted = omega (arith, count, c.others-rows.ensures.rows, ap (λ k. rows_at (map.get c.args.self.now k)) same, c.row_of-rows_added.ensures.rows ∙ ap rows_at c.as_ref.ensures.value, ap len now, len-left_at c.args.self.now c.args.key c.args.value);
      sized = omega (arith, size, c.others-rows.ensures.bytes, ap (λ k. size_at (map.get c.args.self.now k)) same, c.row_of-rows_added.ensures.bytes ∙ ap size_at c.as_ref.ensures.value, ap size_of now, size-left_at c.args.self.now c.args.key c.args.value);
      listed_is = tt;
    }

pub returns : goal.returns
returns c =
    laid_over-updated c.self.inside.table.now c.args.self.now c.self.inside.changes c.insert.new.self c.args.key _ c.args.value c.self.view_is (to_z-of_z w64 c.args.key c.ranges.key) c.in_ok-insert.ensures.updates
