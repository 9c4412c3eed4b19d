use Rattle.std.proofs.{Common.false, lemmas.Result.err_from_is_err_and}
use Rattle.pm_session.proofs.Said.{says_broken, says_sent}
use Rattle.pm_session.proofs.desk.Desk.flush.Goals as goal

pub returns-in_err-send-clause-says : goal.returns-in_err-send-clause-says
returns-in_err-send-clause-says g c =
    let p = err_from_is_err_and c.from_residual.result c.from_residual.ensures.1 in
    rw (p.1, p.2, ← c.self.view_is) (says_broken _ _ _ _ _ _ _ c.as_slice.ensures c.in_err-send.ensures.sends c.in_err-send.ensures.hears c.in_err-send.ensures.cause (c.in_err-send.ensures.holds false))

pub returns-clause-says : goal.returns-clause-says
returns-clause-says g c = rw (← c.self.view_is) (says_sent _ _ _ _ _ _ _ c.as_slice.ensures c.in_ok-send.ensures.sends c.in_ok-send.ensures.hears c.clear.ensures.bytes c.clear.ensures.capacity (c.in_ok-send.ensures.holds false))
