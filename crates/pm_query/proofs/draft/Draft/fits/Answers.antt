use Rattle.std.proofs.{Common.{ap, ◌∙◌, w64, arith}, lemmas.{Int.to_z-of_z, Bool.Decides.nat_tests}}
use Rattle.std.specs.FinMap as map
use Rattle.pm_query.specs.Changes.{size_at}
use Rattle.pm_rows.{specs.Size.size_of, proofs.RowLaws.size-insert}
use Rattle.pm_query.proofs.draft.Draft.fits.Goals as goal

pub returns-then-keeps_limit : goal.returns-then-keeps_limit
returns-then-keeps_limit c =
    let whole = size-insert c.args.self.now c.args.key c.args.value.now in
    let all = c.self.invariant.sized ∙ ap size_of c.self.view_is in
    grind (arith, nat_tests, whole, all, c.row_of-added.ensures.bytes, c.if-keeps_limit.ensures)

pub returns-else-keeps_limit : goal.returns-else-keeps_limit
returns-else-keeps_limit c =
    let whole = size-insert c.args.self.now c.args.key c.args.value.now in
    let same = ap (λ k. size_at (map.get c.args.self.now k)) (to_z-of_z w64 c.args.key c.ranges.key) in
    grind (arith, nat_tests, whole, same, c.others.ensures.bytes, c.row_of-added.ensures.bytes, c.keeps_limit-else-keeps_limit.ensures)
