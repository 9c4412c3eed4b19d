use Rattle.std.proofs.Common.{sym, ap, ◌∙◌}
use Rattle.std.specs.FinMap as map
use Rattle.pm_tables.proofs.Names.{get-in}
use Rattle.pm_tables.proofs.tables.Tables.table.Goals as goal

pub returns : goal.returns
returns c =
    c.get.ensures.value
    ∙ sym (get-in c.self.inside.tables c.args.name.now c.self.invariant.ordered)
    ∙ ap (λ m. map.get m c.args.name.now) c.self.view_is
