use Rattle.std.proofs.Common.{length, refl, ap, arith}
use Rattle.pm_store_apart.proofs.OpensLaws.{short_empty}
use Rattle.pm_store_apart.proofs.apart.Apart.new.Goals as goal

pub invariant_of-result : goal.invariant_of-result
invariant_of-result g c = record {
  begun = omega arith;
  short = short_empty c.new-2.result c.new-2.ensures.none;
  limits = c.new-2.ensures.limits;
  behind = ∣ tt ∣₁;
  ticks = λ disk. refl;
  room = omega (arith, ap length c.new.ensures);
}
