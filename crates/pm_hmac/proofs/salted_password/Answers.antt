use Rattle.std.proofs.Common.{◌≡◌, ◌∙◌, suc, ◌+◌, ◌-◌, [], ap, arith}
use Rattle.pm_hmac.specs.Hmac.{hmac, round, rounds, xored}
use Rattle.pm_hmac.proofs.salted_password.Goals as goal

pub loop-i-init : goal.loop-i-init
unfolding round rounds
loop-i-init c =
    let first = c.update.ensures c.args.password.now [] c.keyed-first.ensures in
    let second = c.update-2.ensures c.args.password.now c.args.salt.now first in
    let digest = c.finalize-last.ensures c.args.password.now _ second in
    (digest, digest)

pub loop-i-preserved : goal.loop-i-preserved
unfolding round rounds
loop-i-preserved c =
    let next : suc (c.loop-i._i - 1) ≡ c.loop-i._i + 1 - 1 = omega (arith, c.loop-i.auto._i) in
    let last = c.hmac-last.ensures ∙ ap (hmac c.args.password.now) c.loop-i.invariant.0 in (
      last ∙ ap (round c.args.password.now c.args.salt.now) next,
      c.xor-joined.ensures ∙ ap (λ x. xored x c.hmac-last.result) c.loop-i.invariant.1
          ∙ ap (xored (rounds c.args.password.now c.args.salt.now (c.loop-i._i - 1))) last
          ∙ ap (rounds c.args.password.now c.args.salt.now) next,
    )
