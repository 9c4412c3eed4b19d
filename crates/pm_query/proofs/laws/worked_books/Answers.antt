use Rattle.pm_query.proofs.WorkedBookProofs.{answered_is_legal, forgotten_is_not, unanswered_is_not}
use Rattle.pm_query.proofs.laws.worked_books.Goals as goal

pub returns-clause-answered : goal.returns-clause-answered
returns-clause-answered c = answered_is_legal

pub returns-clause-forgotten : goal.returns-clause-forgotten
returns-clause-forgotten c = forgotten_is_not

pub returns-clause-unanswered : goal.returns-clause-unanswered
returns-clause-unanswered c = unanswered_is_not
