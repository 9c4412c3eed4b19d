use Rattle.std.{proofs.{Common.{◌≡◌, w64, sym, ap, ◌∙◌, arith, refl, None}, lemmas.{Int.to_z-of_z, Result.err_from_is_err_and}}, specs.Ordering.int_cmp}
use Rattle.std.specs.FinMap as map
use Rattle.std.specs.BTreeMap as tree
use Rattle.pm_rows.{specs.Size.size_at, proofs.{Entries.get-of_table, Tables.{put_rows, put_size, put_table, put_fits, same_table}}}
use Rattle.pm_rows.proofs.rows.Rows.put.Goals as goal

pub returns-in_err-old-clause-absent : goal.returns-in_err-old-clause-absent
returns-in_err-old-clause-absent c =
    let p = err_from_is_err_and c.from_residual.result c.from_residual.ensures.1 in
    let absent : map.get c.args.self.now c.args.key ≡ None =
    ap (λ m. map.get m c.args.key) (sym c.self.view_is)
    ∙ get-of_table c.self.inside.table c.args.key c.self.invariant.ordered
    ∙ ap (tree.get int_cmp c.self.inside.table) (sym (to_z-of_z w64 c.args.key c.ranges.key))
    ∙ c.in_err-old.ensures.absent in
    rw p.1 absent

pub overflow_add-self : goal.overflow_add-self
overflow_add-self c =
    let fits = put_fits c.self.inside.table c.self.inside.table c.self.inside.size c.self.invariant c.args.key c.args.key refl c.args.value
    (omega (arith, c.len-rows.ensures.len, c.len-rows.ensures.small)) (omega (arith, c.row_size-added.ensures.size, c.row_size-added.ensures.small)) in
    omega (arith, fits, c.row_size-added.ensures.size)

pub overflow_sub-self : goal.overflow_sub-self
overflow_sub-self c =
    let old = ap size_at (sym c.in_ok-old.ensures.old ∙ c.in-Some.is) in
    let sum = put_size c.self.inside.table c.insert.new.self c.self.inside.size c.self.invariant _ c.args.key (to_z-of_z w64 c.args.key c.ranges.key) c.args.value c.in_ok-old.ensures.entries in
    omega (arith, old, sum, c.row_size.ensures.size, c.row_size-added.ensures.size)

pub invariant_of-self : goal.invariant_of-self
invariant_of-self c = same_table c.self.inside.table c.insert.new.self c.self.inside.size c.in_err-old.ensures.err c.self.invariant

pub invariant_of-self-in-Some : goal.invariant_of-self-in-Some
invariant_of-self-in-Some c =
    let old = ap size_at (sym c.in_ok-old.ensures.old ∙ c.in-Some.is) in
    let sum = put_size c.self.inside.table c.insert.new.self c.self.inside.size c.self.invariant _ c.args.key (to_z-of_z w64 c.args.key c.ranges.key) c.args.value c.in_ok-old.ensures.entries in
    put_table c.self.inside.table c.insert.new.self c.self.inside.size c.self.invariant _ c.args.key (to_z-of_z w64 c.args.key c.ranges.key) c.args.value _
    c.ranges.key c.row_size-added.ensures.utf8 c.insert.ensures.ordered c.in_ok-old.ensures.entries
    (omega (arith, c.row_size-added.ensures.size, c.row_size-added.ensures.small))
    (omega (arith, old, sum, c.row_size.ensures.size, c.row_size-added.ensures.size))

pub invariant_of-self-in_default : goal.invariant_of-self-in_default
invariant_of-self-in_default c =
    let old = ap size_at (sym c.in_ok-old.ensures.old ∙ c.in_default.is) in
    put_table c.self.inside.table c.insert.new.self c.self.inside.size c.self.invariant _ c.args.key (to_z-of_z w64 c.args.key c.ranges.key) c.args.value _
    c.ranges.key c.row_size-added.ensures.utf8 c.insert.ensures.ordered c.in_ok-old.ensures.entries
    (omega (arith, c.row_size-added.ensures.size, c.row_size-added.ensures.small))
    (omega (arith, old, c.row_size-added.ensures.size))

pub returns-in-Some-clause-ok : goal.returns-in-Some-clause-ok
returns-in-Some-clause-ok c =
    put_rows c.self.inside.table c.insert.new.self c.self.inside.size c.self.invariant _ c.args.key (to_z-of_z w64 c.args.key c.ranges.key) c.args.value c.insert.ensures.ordered c.in_ok-old.ensures.updates
    ∙ ap (λ m. map.insert m c.args.key c.args.value) c.self.view_is

pub returns-in_default-clause-ok : goal.returns-in_default-clause-ok
returns-in_default-clause-ok c =
    put_rows c.self.inside.table c.insert.new.self c.self.inside.size c.self.invariant _ c.args.key (to_z-of_z w64 c.args.key c.ranges.key) c.args.value c.insert.ensures.ordered c.in_ok-old.ensures.updates
    ∙ ap (λ m. map.insert m c.args.key c.args.value) c.self.view_is
