use Rattle.pm_board_acts.proofs.Ending.{may_end}
use Rattle.pm_board_acts.proofs.finish.may_end_anywhere.Goals as goal

pub returns : goal.returns
returns g c = may_end c.keeps_a_legal_journal.ensures
