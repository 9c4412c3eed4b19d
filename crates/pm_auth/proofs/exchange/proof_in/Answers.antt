use Rattle.pm_auth.{specs.Base64.base64_of, proofs.Messages.{last_is, no_proof_in}}
use Rattle.pm_auth.proofs.exchange.proof_in.Goals as goal

pub returns-in-Some-after-clause-none : goal.returns-in-Some-after-clause-none
returns-in-Some-after-clause-none c =
    no_proof_in c.args.expected.now c.args.message.now c.in-Some.last.now c.in-Some-after.text.now c.digest_in.result c.in-Some.ensures.found
    c.in-Some-after.ensures.found c.digest_in.ensures.none

pub returns-in-None-clause-none : goal.returns-in-None-clause-none
returns-in-None-clause-none c =
    λ proof is. c.in-None.ensures.none (base64_of proof)
    (last_is c.args.expected.now c.args.message.now c.in-Some.last.now proof c.in-Some.ensures.found is)
