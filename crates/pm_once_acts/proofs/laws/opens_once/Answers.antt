use Rattle.std.proofs.Common.{[]}
use Rattle.pm_once_acts.proofs.StepsLaws.{opened_once}
use Rattle.pm_once_acts.proofs.laws.opens_once.Goals as goal

pub returns : goal.returns
returns c = λ limits steps are once. opened_once limits [] steps are once
