use Rattle.std.proofs.{Common.{◌≡◌, ◌-◌, ◌^◌, min, sym, ap, ◌∙◌, arith}, lemmas.Grind.common_steps}
use Rattle.pm_tables.{specs.{Sizes.{table_size, size_of_tables}, Inside.tables_in}, proofs.Databases.capped_total}
use Rattle.pm_tables.proofs.tables.Tables.size.Goals as goal

pub returns : goal.returns
returns c =
    let kept : min (size_of_tables c.args.self.now) (2 ^ 64 - 1) ≡ min c.self.inside.totals.size (2 ^ 64 - 1) =
    ap (λ m. min (size_of_tables m) (2 ^ 64 - 1)) (sym c.self.view_is)
    ∙ sym (capped_total table_size (tables_in c.self.inside.tables))
    ∙ ap (λ n. min n (2 ^ 64 - 1)) (sym c.self.invariant.size) in
    rw (kept, c.unwrap_or.ensures) (grind (arith, common_steps, c.try_from.ensures))
