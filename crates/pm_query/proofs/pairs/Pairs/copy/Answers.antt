use Rattle.std.proofs.Common.{All, sym, subst}
use Rattle.pm_rows.specs.Typed.{IsTypedRow}
use Rattle.pm_query.proofs.pairs.Pairs.copy.Goals as goal

pub invariant_of-result : goal.invariant_of-result
invariant_of-result c = subst (All IsTypedRow) (sym c.in_ok-clone.ensures.cases) c.self.invariant
