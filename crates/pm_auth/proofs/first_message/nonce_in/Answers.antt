use Rattle.pm_auth.proofs.Messages.{never, no_name, no_nonce, nonce_is}
use Rattle.pm_auth.proofs.first_message.nonce_in.Goals as goal

pub returns-in_err-_name-clause-none : goal.returns-in_err-_name-clause-none
returns-in_err-_name-clause-none c =
    rw c.from_residual-in_err-_name.ensures
    (λ nonce is. no_name c.args.bare.now c.in_ok-named.named.now nonce c.in_ok-named.ensures.found c.in_err-_name.ensures.none is)

pub returns-in_err-nonce-clause-none : goal.returns-in_err-nonce-clause-none
returns-in_err-nonce-clause-none c =
    rw c.from_residual-in_err-nonce.ensures
    (λ nonce is. c.in_err-nonce.ensures.none nonce
    (nonce_is c.args.bare.now c.in_ok-named.named.now c.in_ok-_name._name.now c.in_ok-_name.rest.now nonce c.in_ok-named.ensures.found
    c.in_ok-_name.ensures.found is))

pub returns-else-is_nonce-clause-none : goal.returns-else-is_nonce-clause-none
returns-else-is_nonce-clause-none c =
    λ nonce is. no_nonce c.args.bare.now c.in_ok-named.named.now c.in_ok-_name._name.now c.in_ok-_name.rest.now c.in_ok-nonce.nonce.now nonce
    c.in_ok-named.ensures.found c.in_ok-_name.ensures.found c.in_ok-nonce.ensures.found (never c.if-is_nonce.ensures.1) is
