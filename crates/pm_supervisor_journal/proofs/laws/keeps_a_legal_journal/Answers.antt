use Rattle.pm_supervisor_journal.proofs.Lawful.{keeps-a-legal-journal}
use Rattle.pm_supervisor_journal.proofs.laws.keeps_a_legal_journal.Goals as goal

pub returns : goal.returns
returns c = keeps-a-legal-journal c.stays_in_step.ensures
