use Rattle.std.{proofs.Common.{ap, ◌∙◌}, specs.FinMap.from_sorted}
use Rattle.pm_rows.proofs.Tables.{same_table, entries-clone}
use Rattle.pm_rows.proofs.rows.Rows.copy.Goals as goal

pub invariant_of-result : goal.invariant_of-result
invariant_of-result c = same_table c.self.inside.table c.in_ok-clone.field-0 c.self.inside.size (entries-clone c.self.inside.table c.in_ok-clone.field-0 c.in_ok-clone.ensures.cases) c.self.invariant

pub returns : goal.returns
returns c = ap (λ es. from_sorted es) (entries-clone c.self.inside.table c.in_ok-clone.field-0 c.in_ok-clone.ensures.cases) ∙ c.self.view_is
