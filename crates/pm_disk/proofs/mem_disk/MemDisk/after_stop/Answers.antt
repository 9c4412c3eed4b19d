use Rattle.pm_disk.proofs.Stopped.{stopped_left}
use Rattle.pm_disk.proofs.mem_disk.MemDisk.after_stop.Goals as goal

pub returns-clause-left : goal.returns-clause-left
returns-clause-left c = record {
  a = rw c.in_ok-a.ensures.bytes (stopped_left c.args.self.now.a.past.items c.args.tick c.args.fill.now c.args.beyond);
  b = rw c.in_ok-b.ensures.bytes (stopped_left c.args.self.now.b.past.items c.args.tick c.args.fill.now c.args.beyond);
}
