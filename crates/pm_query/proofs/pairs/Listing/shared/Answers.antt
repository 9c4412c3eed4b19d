use Rattle.std.proofs.Common.{All, sym, subst}
use Rattle.pm_rows.specs.Typed.{IsTypedRow}
use Rattle.pm_query.proofs.pairs.Listing.shared.Goals as goal

pub invariant_of-result : goal.invariant_of-result
invariant_of-result c = subst (All IsTypedRow) (sym c.in_ok-from_vec.ensures) c.self.invariant
