use Rattle.pm_board_acts.proofs.Ending.{ends_alone}
use Rattle.pm_board_acts.proofs.finish.ends_with_nobody.Goals as goal

pub returns : goal.returns
returns g c = ends_alone
