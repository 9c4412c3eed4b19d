use Rattle.pm_query.proofs.Books.{acknowledged_stays}
use Rattle.pm_query.proofs.laws.acknowledged_stays.Goals as goal

pub returns : goal.returns
returns c = acknowledged_stays
