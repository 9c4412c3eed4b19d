use Rattle.std.proofs.Common.{All, subst}
use Rattle.std.specs.FinMap as map
use Rattle.pm_rows.{specs.Typed.IsTypedRow, proofs.Tables.typed-rows_in}
use Rattle.pm_rows.proofs.rows.Rows.are_typed.Goals as goal

pub returns : goal.returns
returns c = subst (λ rows. All IsTypedRow (map.entries rows)) c.self.view_is (typed-rows_in c.self.inside.table c.self.inside.size c.self.invariant)
