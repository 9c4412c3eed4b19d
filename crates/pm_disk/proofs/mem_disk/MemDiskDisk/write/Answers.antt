use Rattle.pm_disk.proofs.Moments.{fails}
use Rattle.pm_disk.proofs.mem_disk.MemDiskDisk.write.Goals as goal

pub returns-in-Err-clause-err : goal.returns-in-Err-clause-err
returns-in-Err-clause-err c =
    fails c.args.self.now c.write_to.new.self c.fail-in-Err.new.self c.in-Err.ensures.err c.fail-in-Err.ensures.keeps
