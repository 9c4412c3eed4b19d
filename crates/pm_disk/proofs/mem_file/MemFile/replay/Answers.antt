use Rattle.std.proofs.Common.{refl}
use Rattle.pm_disk.proofs.Again.{replaying_none}
use Rattle.pm_disk.proofs.mem_file.MemFile.replay.Goals as goal

pub loop-entry-init : goal.loop-entry-init
loop-entry-init c =
    replaying_none c.args.self.now.past.items c.args.tick _ c.new.ensures.items refl c.new-2.ensures.items
