use Rattle.std.proofs.Common.{sym, ap, ◌∙◌}
use Rattle.std.specs.FinMap as map
use Rattle.pm_rows.proofs.Tables.{len-rows_in}
use Rattle.pm_rows.proofs.rows.Rows.len.Goals as goal

pub returns : goal.returns
returns c = c.len.ensures.len ∙ sym (len-rows_in c.self.inside.table c.self.invariant.ordered) ∙ ap map.len c.self.view_is
