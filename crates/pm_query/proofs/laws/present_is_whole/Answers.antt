use Rattle.pm_query.proofs.Ticks.{present_is_whole}
use Rattle.pm_query.proofs.laws.present_is_whole.Goals as goal

pub returns : goal.returns
returns c = present_is_whole
