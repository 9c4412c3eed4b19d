use Rattle.std.proofs.Common.{refl, arith}
use Rattle.pm_disk.proofs.Moments.{changes_no_file, kept_later}
use Rattle.pm_disk.proofs.mem_disk.MemDisk.fail.Goals as goal

pub invariant_of-self : goal.invariant_of-self
invariant_of-self c = let disk = c.args.self.now in record {
  a_kept = kept_later disk.a.past.items disk.a.bytes.items disk.ticks c.saturating_add-self.result disk.a_kept (omega arith);
  b_kept = kept_later disk.b.past.items disk.b.bytes.items disk.ticks c.saturating_add-self.result disk.b_kept (omega arith);
  counted = (omega arith, omega arith);
}

pub returns-clause-keeps : goal.returns-clause-keeps
returns-clause-keeps c = changes_no_file c.args.self.now _ refl refl refl refl (omega arith) (omega arith)
