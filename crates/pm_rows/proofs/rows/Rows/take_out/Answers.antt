use Rattle.std.proofs.{Common.{w64, sym, ap, ◌∙◌, arith}, lemmas.Int.to_z-of_z}
use Rattle.std.specs.FinMap as map
use Rattle.pm_rows.{specs.Size.size_at, proofs.Tables.{remove_rows, remove_size, remove_table, same_table}}
use Rattle.pm_rows.proofs.rows.Rows.take_out.Goals as goal

pub overflow_sub-self : goal.overflow_sub-self
overflow_sub-self c =
    let old = ap size_at (sym c.in-Some.ensures.value) in
    let sum = remove_size c.self.inside.table c.remove.new.self c.self.inside.size c.self.invariant _ c.args.key (to_z-of_z w64 c.args.key c.ranges.key) c.remove.ensures.entries in
    omega (arith, old, sum, c.row_size.ensures.size)

pub invariant_of-self : goal.invariant_of-self
invariant_of-self c =
    let old = ap size_at (sym c.in-Some.ensures.value) in
    let sum = remove_size c.self.inside.table c.remove.new.self c.self.inside.size c.self.invariant _ c.args.key (to_z-of_z w64 c.args.key c.ranges.key) c.remove.ensures.entries in
    remove_table c.self.inside.table c.remove.new.self c.self.inside.size c.self.invariant _ c.args.key (to_z-of_z w64 c.args.key c.ranges.key) _ c.remove.ensures.ordered c.remove.ensures.entries
    (omega (arith, old, sum, c.row_size.ensures.size))

pub invariant_of-self-in_default : goal.invariant_of-self-in_default
invariant_of-self-in_default c = same_table c.self.inside.table c.remove.new.self c.self.inside.size c.in_default.ensures.unchanged c.self.invariant

pub returns-in-Some : goal.returns-in-Some
returns-in-Some c =
    remove_rows c.self.inside.table c.remove.new.self c.self.inside.size c.self.invariant _ c.args.key (to_z-of_z w64 c.args.key c.ranges.key) c.remove.ensures.ordered c.remove.ensures.updates
    ∙ ap (λ m. map.remove m c.args.key) c.self.view_is

pub returns-in_default : goal.returns-in_default
returns-in_default c =
    remove_rows c.self.inside.table c.remove.new.self c.self.inside.size c.self.invariant _ c.args.key (to_z-of_z w64 c.args.key c.ranges.key) c.remove.ensures.ordered c.remove.ensures.updates
    ∙ ap (λ m. map.remove m c.args.key) c.self.view_is
