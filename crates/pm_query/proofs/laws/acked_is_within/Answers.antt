use Rattle.pm_query.proofs.Books.{acked_is_within}
use Rattle.pm_query.proofs.laws.acked_is_within.Goals as goal

pub returns : goal.returns
returns c = acked_is_within
