use Rattle.std.proofs.Common.{All, subst}
use Rattle.pm_rows.specs.Typed.{IsTypedRow}
use Rattle.pm_query.proofs.pairs.Pairs.pairs.Goals as goal

pub returns-clause-typed : goal.returns-clause-typed
returns-clause-typed c = subst (All IsTypedRow) c.self.view_is c.self.invariant
