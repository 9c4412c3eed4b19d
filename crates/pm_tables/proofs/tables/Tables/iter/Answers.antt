use Rattle.std.{proofs.{Common.{length, sym, ap, ◌∙◌}, iter.runs.Sources.from_front}, specs.Map.Iter.TakesFirst}
use Rattle.std.specs.FinMap as map
use Rattle.pm_tables.{specs.{TablesIter.shown_table, Inside.named}, proofs.Names.entries-in}
use Rattle.pm_tables.proofs.tables.Tables.iter.Goals as goal

pub returns-clause-rest : goal.returns-clause-rest
returns-clause-rest c = c.of.ensures ∙ ap named c.iter.ensures.rest ∙ sym (entries-in c.self.inside.tables c.self.invariant.ordered) ∙ ap map.entries c.self.view_is

pub returns-clause-runs : goal.returns-clause-runs
returns-clause-runs c = from_front (TakesFirst shown_table) shown_table (λ s. s) (λ s t h. ap length h.0) (λ s x t h. h)
