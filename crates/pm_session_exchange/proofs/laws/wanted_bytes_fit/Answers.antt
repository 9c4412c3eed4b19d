use Rattle.pm_session_exchange.proofs.Wanting.{wanted_fits}
use Rattle.pm_session_exchange.proofs.laws.wanted_bytes_fit.Goals as goal

pub returns : goal.returns
returns c = wanted_fits
