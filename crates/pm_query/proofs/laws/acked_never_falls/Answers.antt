use Rattle.pm_query.proofs.Books.{acked_never_falls}
use Rattle.pm_query.proofs.laws.acked_never_falls.Goals as goal

pub returns : goal.returns
returns c = acked_never_falls
