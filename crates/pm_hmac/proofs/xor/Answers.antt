use Rattle.std.proofs.{Common.arith, lemmas.Grind.common_steps}
use Rattle.pm_hmac.proofs.Bytes.{xored_more, xored_whole}
use Rattle.pm_hmac.proofs.xor.Goals as goal

pub loop-i-preserved : goal.loop-i-preserved
loop-i-preserved c = record {
  whole = grind (arith, common_steps, c.loop-i.invariant.whole);
  front = xored_more c.loop-i.i c.args.one.now c.args.other.now c.loop-i.out
      (omega (arith, c.told-one, c.loop-i-test.true)) (omega (arith, c.told-other, c.loop-i-test.true))
      (omega (arith, c.loop-i.invariant.whole, c.loop-i-test.true))
      c.loop-i.invariant.front;
}

pub returns : goal.returns
returns c = xored_whole c.loop-i.i 32 c.args.one.now c.args.other.now c.loop-i.out
    (omega (arith, c.loop-i-test.false, c.loop-i.auto.i-end)) c.told-one c.told-other c.loop-i.invariant.whole c.loop-i.invariant.front
