use Rattle.pm_serve_promises.proofs.Promising.{promised_serve}
use Rattle.pm_serve_promises.proofs.served.serve_as_promised.Goals as goal

pub returns-clause-run : goal.returns-clause-run
returns-clause-run g c =
    promised_serve c.replies_are_right.ensures c.own_entries_stand.ensures c.acked_never_falls.ensures c.restarts_safely.ensures c.ends_for_cause.ensures _ _ _ _ _ c.supervise.ensures.run
