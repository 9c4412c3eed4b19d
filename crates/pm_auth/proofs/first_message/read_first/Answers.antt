use Rattle.pm_auth.proofs.Messages.{no_first}
use Rattle.pm_auth.proofs.first_message.read_first.Goals as goal

pub returns-in_err-nonce-clause-none : goal.returns-in_err-nonce-clause-none
returns-in_err-nonce-clause-none c =
    rw c.from_residual-in_err-nonce.ensures
    (no_first c.args.message.now c.in_ok-binding.bare.now c.in_ok-binding.binding c.in_ok-binding.ensures.found c.in_err-nonce.ensures.none)
