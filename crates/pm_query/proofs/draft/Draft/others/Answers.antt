use Rattle.std.proofs.{Common.{ap, ◌∙◌, w64, arith}, lemmas.Int.to_z-of_z}
use Rattle.std.specs.FinMap as map
use Rattle.pm_rows.specs.Size.{size_of}
use Rattle.pm_query.{specs.Changes.{rows_at, size_at}, proofs.Sizes.{size-at-most, len-at-most}}
use Rattle.pm_query.proofs.draft.Draft.others.Goals as goal

pub overflow_sub-result : goal.overflow_sub-result
overflow_sub-result c =
    let all = c.self.invariant.counted ∙ ap map.len c.self.view_is in
    let here = c.row_of-rows.ensures.rows ∙ ap rows_at (c.get.ensures ∙ ap (map.get c.args.self.now) (to_z-of_z w64 c.args.key c.ranges.key)) in
    omega (arith, all, here, len-at-most c.args.self.now c.args.key)

pub overflow_sub-result-2 : goal.overflow_sub-result-2
overflow_sub-result-2 c =
    let all = c.self.invariant.sized ∙ ap size_of c.self.view_is in
    let here = c.row_of-rows.ensures.bytes ∙ ap size_at (c.get.ensures ∙ ap (map.get c.args.self.now) (to_z-of_z w64 c.args.key c.ranges.key)) in
    omega (arith, all, here, size-at-most c.args.self.now c.args.key)

pub returns-clause-rows : goal.returns-clause-rows
returns-clause-rows c =
    let all = c.self.invariant.counted ∙ ap map.len c.self.view_is in
    let here = c.row_of-rows.ensures.rows ∙ ap rows_at (c.get.ensures ∙ ap (map.get c.args.self.now) (to_z-of_z w64 c.args.key c.ranges.key)) in
    omega (arith, all, here, len-at-most c.args.self.now c.args.key)

pub returns-clause-bytes : goal.returns-clause-bytes
returns-clause-bytes c =
    let all = c.self.invariant.sized ∙ ap size_of c.self.view_is in
    let here = c.row_of-rows.ensures.bytes ∙ ap size_at (c.get.ensures ∙ ap (map.get c.args.self.now) (to_z-of_z w64 c.args.key c.ranges.key)) in
    omega (arith, all, here, size-at-most c.args.self.now c.args.key)
