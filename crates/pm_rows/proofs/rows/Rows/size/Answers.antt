use Rattle.std.proofs.{Common.{◌≡◌, sym, ap, ◌∙◌, arith}, lemmas.Grind.common_steps}
use Rattle.pm_rows.{specs.Size.size_of, proofs.Tables.size-rows_in}
use Rattle.pm_rows.proofs.rows.Rows.size.Goals as goal

pub returns : goal.returns
returns c =
    let whole : size_of c.args.self.now ≡ c.self.inside.size = ap size_of (sym c.self.view_is) ∙ size-rows_in c.self.inside.table c.self.inside.size c.self.invariant in
    rw (whole, c.unwrap_or.ensures) (grind (arith, common_steps, c.try_from.ensures))
