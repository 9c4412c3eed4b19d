use Rattle.pm_query.proofs.Ticks.{past_stays}
use Rattle.pm_query.proofs.laws.past_stays.Goals as goal

pub returns : goal.returns
returns c = past_stays
