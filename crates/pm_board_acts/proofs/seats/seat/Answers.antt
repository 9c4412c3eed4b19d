use Rattle.pm_board_acts.proofs.Seen.{seats_set}
use Rattle.pm_board_acts.proofs.seats.seat.Goals as goal

pub returns-clause-seats : goal.returns-clause-seats
returns-clause-seats g c = seats_set c.args.roster.now.knows c.assign.new.self.knows c.args.slot _ c.assign.ensures.children
