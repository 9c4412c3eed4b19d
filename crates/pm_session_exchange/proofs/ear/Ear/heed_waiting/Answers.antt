use Rattle.std.proofs.Common.{sym}
use Rattle.pm_session_exchange.proofs.Signals.{wait_told}
use Rattle.pm_session_exchange.proofs.ear.Ear.heed_waiting.Goals as goal

pub returns-in-Some-clause-stops : goal.returns-in-Some-clause-stops
returns-in-Some-clause-stops g c = wait_told _ c.in-Some.cause c.listen.ensures.attentive (sym c.in-Some.ensures)
