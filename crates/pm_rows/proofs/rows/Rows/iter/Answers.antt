use Rattle.std.{proofs.{Common.{length, All, sym, ap, subst, ◌∙◌}, iter.runs.Sources.from_front}, specs.Map.Iter.TakesFirst}
use Rattle.std.specs.FinMap as map
use Rattle.pm_rows.{specs.{RowsIter.shown_row, Typed.IsTypedRow}, proofs.Tables.{entries-rows_in, typed-rows_in}}
use Rattle.pm_rows.proofs.rows.Rows.iter.Goals as goal

pub returns-clause-rest : goal.returns-clause-rest
returns-clause-rest c = c.of.ensures ∙ c.iter.ensures.rest ∙ sym (entries-rows_in c.self.inside.table c.self.invariant.ordered) ∙ ap map.entries c.self.view_is

pub returns-clause-runs : goal.returns-clause-runs
returns-clause-runs c = from_front (TakesFirst shown_row) shown_row (λ s. s) (λ s t h. ap length h.0) (λ s x t h. h)

pub returns-clause-typed : goal.returns-clause-typed
returns-clause-typed c = subst (λ rows. All IsTypedRow (map.entries rows)) c.self.view_is (typed-rows_in c.self.inside.table c.self.inside.size c.self.invariant)
