use Rattle.pm_promises.proofs.Wronging.{none_beyond}
use Rattle.pm_promises.proofs.laws.none_is_right_beyond.Goals as goal

pub returns : goal.returns
returns c = none_beyond
