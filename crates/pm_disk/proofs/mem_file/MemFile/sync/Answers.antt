use Rattle.pm_disk.proofs.Replay.{adds_sync}
use Rattle.pm_disk.proofs.mem_file.MemFile.sync.Goals as goal

pub returns-clause-noted : goal.returns-clause-noted
returns-clause-noted c = adds_sync c.args.ticks c.args.self.now.past.items c.push.new.self.items c.requires.earlier c.in_ok-push.ensures.items
