use Rattle.std.proofs.Common.{arith}
use Rattle.pm_hmac.proofs.Bytes.{still_same}
use Rattle.pm_hmac.proofs.same.Goals as goal

pub loop-i-preserved : goal.loop-i-preserved
loop-i-preserved c = still_same c.loop-i.i c.args.one.now c.args.other.now c.loop-i.differing
    (omega (arith, c.told-one, c.loop-i-test.true)) (omega (arith, c.told-other, c.loop-i-test.true)) c.loop-i.invariant
