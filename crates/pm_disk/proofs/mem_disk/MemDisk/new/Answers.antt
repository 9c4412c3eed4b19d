use Rattle.std.proofs.Common.{arith}
use Rattle.pm_disk.proofs.Moments.{kept_new, only_empty}
use Rattle.pm_disk.proofs.mem_disk.MemDisk.new.Goals as goal

pub invariant_of-result : goal.invariant_of-result
invariant_of-result c = record {
  a_kept = kept_new c.new.result.past.items c.new.result.bytes.items c.new.ensures.past c.new.ensures.bytes;
  b_kept = kept_new c.new-2.result.past.items c.new-2.result.bytes.items c.new-2.ensures.past c.new-2.ensures.bytes;
  counted = (omega arith, omega arith);
}

pub returns-clause-images : goal.returns-clause-images
returns-clause-images c = only_empty _ c.new.ensures.past c.new-2.ensures.past
