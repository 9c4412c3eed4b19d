use Rattle.std.proofs.Common.{arith, ◌+◌, ◌-◌}
use Rattle.pm_log.proofs.Halves.{told_copy, told_enough, told_ready}
use Rattle.pm_log.proofs.pieces.copy_next.Goals as goal

pub returns-then-left-gt0-clause-made : goal.returns-then-left-gt0-clause-made
returns-then-left-gt0-clause-made g c =
    let before = g.D.Disk.seen c.args.disk.now in
    let place = c.args.from + (c.args.done - c.args.base_end) in
    told_copy before (g.D.Disk.seen c.copy_into.new.disk) c.args.file c.args.end c.args.from c.args.done c.min-count.result c.args.base_end
    (g.D.Disk.images c.copy_into.new.disk (g.D.Disk.ticks c.copy_into.new.disk)) c.requires.base
    (omega (arith, c.min-count.ensures, c.requires.from, c.requires.done, c.requires.base))
    (told_enough before c.args.file c.args.end place c.min-count.result (omega (arith, c.min-count.ensures, c.requires.from, c.requires.done, c.requires.base)) c.requires.log)
    c.in_ok-copy_into.ensures.written

pub returns-clause-made : goal.returns-clause-made
returns-clause-made g c =
    told_ready (g.D.Disk.seen c.args.disk.now) (g.D.Disk.seen c.write_durably.new.disk) c.args.file c.other.result c.args.end c.args.from c.args.done c.args.base_end
    (g.D.Disk.images c.write_durably.new.disk (g.D.Disk.ticks c.write_durably.new.disk)) c.other.ensures c.requires.base
    (omega (arith, c.if-left-gt0.false, c.requires.from, c.requires.done, c.requires.base))
    c.in_ok-write_durably.ensures.written c.in_ok-write_durably.ensures.durable
