use Rattle.std.proofs.Common.{refl}
use Rattle.pm_supervisor_journal.specs.Supervision.{at_work}
use Rattle.pm_board_acts.{specs.Standing.view, proofs.Beginning.begun_at_first}
use Rattle.pm_board_acts.proofs.desk.Desk.new.Goals as goal

pub returns-clause-begins : goal.returns-clause-begins
returns-clause-begins g c = λ limits count is. begun_at_first c.laws.ensures.work limits count (view (at_work c.args.supervision) c.args.roster.knows) refl is
