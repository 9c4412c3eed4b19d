use Rattle.std.proofs.Common.{◌≡◌, rules}
use Rattle.pm_disk.proofs.Replay.{adds_write}
use Rattle.pm_disk.proofs.mem_file.MemFile.write.Goals as goal

pub returns-clause-noted : goal.returns-clause-noted
returns-clause-noted c =
    let copied : c.in_ok-copy.copy.items ≡ c.args.bytes.now = search rules in
    let pushed = rw c.reserve.ensures.items at c.in_ok-push.ensures.items in
    adds_write c.args.ticks c.args.at c.args.self.now.past.items c.push.new.self.items c.in_ok-copy.copy c.args.bytes.now c.requires.earlier copied pushed
