use Rattle.std.proofs.Common.{sym, ap, ◌∙◌}
use Rattle.std.specs.FinMap as map
use Rattle.pm_tables.proofs.Names.{len-in}
use Rattle.pm_tables.proofs.tables.Tables.table_count.Goals as goal

pub returns : goal.returns
returns c = c.len.ensures.len ∙ sym (len-in c.self.inside.tables c.self.invariant.ordered) ∙ ap map.len c.self.view_is
