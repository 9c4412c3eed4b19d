use Rattle.pm_once_promises.proofs.Promising.{promised_run}
use Rattle.pm_once_promises.proofs.promised.once_as_promised.Goals as goal

pub returns-clause-run : goal.returns-clause-run
returns-clause-run g c =
    promised_run c.replies_are_right.ensures c.acked_never_falls.ensures c.restarts_safely.ensures _ _ _ _ c.once.ensures.run
