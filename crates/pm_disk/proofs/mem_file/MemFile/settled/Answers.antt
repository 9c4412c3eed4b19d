use Rattle.std.proofs.Common.{◌≡◌, rules}
use Rattle.pm_disk.proofs.Again.{settled_kept, settled_only}
use Rattle.pm_disk.proofs.mem_file.MemFile.settled.Goals as goal

pub returns-clause-kept : goal.returns-clause-kept
returns-clause-kept c =
    let copied : c.in_ok-copy.copy.items ≡ c.args.bytes.items = search rules in
    let pushed = rw (c.in_ok-push.ensures.items, c.new-past.ensures.items) at c.in_ok-push-2.ensures.items in
    settled_kept c.push-2.new.self.items c.in_ok-copy.copy c.args.bytes.items copied pushed

pub returns-clause-only : goal.returns-clause-only
returns-clause-only c =
    let copied : c.in_ok-copy.copy.items ≡ c.args.bytes.items = search rules in
    let pushed = rw (c.in_ok-push.ensures.items, c.new-past.ensures.items) at c.in_ok-push-2.ensures.items in
    settled_only c.push-2.new.self.items c.in_ok-copy.copy c.args.bytes.items copied pushed
