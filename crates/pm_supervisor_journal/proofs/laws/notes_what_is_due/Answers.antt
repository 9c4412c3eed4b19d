use Rattle.pm_supervisor_journal.proofs.Lawful.{notes-what-is-due}
use Rattle.pm_supervisor_journal.proofs.laws.notes_what_is_due.Goals as goal

pub returns : goal.returns
returns c = notes-what-is-due c.writes_a_legal_journal.ensures
