use Rattle.pm_xact.proofs.Asking.{one_thing}
use Rattle.pm_xact.proofs.laws.asks_one_thing.Goals as goal

pub returns : goal.returns
returns c = one_thing c.one_script.ensures
