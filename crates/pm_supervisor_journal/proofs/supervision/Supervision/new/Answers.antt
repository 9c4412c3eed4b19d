use Rattle.pm_supervisor_journal.proofs.Making.{stands-begun}
use Rattle.pm_supervisor_journal.proofs.supervision.Supervision.new.Goals as goal

pub returns-clause-stands : goal.returns-clause-stands
returns-clause-stands g c =
    λ none. rw c.new.ensures (stands-begun c.laws.ensures.steps c.args.limits (g.J.Chronicle.entries c.args.journal) none)
