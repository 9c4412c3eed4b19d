use Rattle.std.proofs.{Common.arith, lemmas.Grind.common_steps}
use Rattle.pm_hmac.proofs.Bytes.{masked_more, masked_whole}
use Rattle.pm_hmac.proofs.masked_with.Goals as goal

pub loop-i-preserved : goal.loop-i-preserved
loop-i-preserved c = record {
  whole = grind (arith, common_steps, c.loop-i.invariant.whole);
  front = masked_more c.args.mask c.loop-i.i c.args.block.now c.loop-i.out
      (omega (arith, c.told-block, c.loop-i-test.true)) (omega (arith, c.loop-i.invariant.whole, c.loop-i-test.true))
      c.loop-i.invariant.front;
}

pub returns : goal.returns
returns c = masked_whole c.args.mask c.loop-i.i 64 c.args.block.now c.loop-i.out
    (omega (arith, c.loop-i-test.false, c.loop-i.auto.i-end)) c.told-block c.loop-i.invariant.whole c.loop-i.invariant.front
