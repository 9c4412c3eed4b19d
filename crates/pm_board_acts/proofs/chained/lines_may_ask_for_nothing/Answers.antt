use Rattle.pm_board_acts.proofs.Asking.{nothing_asked}
use Rattle.pm_board_acts.proofs.chained.lines_may_ask_for_nothing.Goals as goal

pub returns : goal.returns
returns g c = nothing_asked
