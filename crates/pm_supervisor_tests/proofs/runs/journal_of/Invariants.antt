use Rattle.pm_supervisor_journal.specs.Supervision.{at_work}
use Rattle.pm_supervisor_tests.specs.Serving.{IsServing}
use Rattle.pm_supervisor_tests.proofs.runs.journal_of.Given as goal

abbrev pub invariant-loop-line : goal.invariant-loop-line
invariant-loop-line l =
    (goal.iterator-loop-line).can_next l.line-iterator ×
    (goal.iterator-loop-line).is_finite l.line-iterator ×
    IsServing (at_work l.server)
