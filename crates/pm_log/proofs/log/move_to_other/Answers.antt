use Rattle.pm_log.proofs.{Moves.{has_moved, keeps_base, keeps_both}, Wrote.at_next}
use Rattle.pm_log.proofs.log.move_to_other.Goals as goal

pub returns-in_err-write_durably-clause-stops : goal.returns-in_err-write_durably-clause-stops
returns-in_err-write_durably-clause-stops g c =
    keeps_base (g.D.Disk.seen c.args.disk.now) c.args.file c.other-next.result _ _ _ c.args.bytes.now (g.D.Disk.images c.args.disk.now) (g.D.Disk.images c.write_durably.new.disk)
    c.other-next.ensures c.in_err-write_durably.ensures.stops

pub returns-in_err-change_files-clause-stops : goal.returns-in_err-change_files-clause-stops
returns-in_err-change_files-clause-stops g c =
    let before = g.D.Disk.seen c.args.disk.now in
    let mid = g.D.Disk.seen c.write_durably.new.disk in
    let i = g.D.Disk.images c.args.disk.now in
    let j = g.D.Disk.images c.write_durably.new.disk in
    let wrote = at_next c.other-next.result c.args.file 1 c.split_at.result.1.now _ _ _ i j before mid c.other-next.ensures c.split_at.ensures.back
    (record { stops = c.in_ok-write_durably.ensures.stops; time = c.in_ok-write_durably.ensures.time; written = c.in_ok-write_durably.ensures.written; durable = c.in_ok-write_durably.ensures.durable }) in
    keeps_both before mid c.args.file _ _ _ c.args.bytes.now i j (g.D.Disk.images c.change_files.new.disk) (g.met.D.Disk.reads_as_left c.args.disk.now) wrote c.change_files.ensures.stops c.change_files.ensures.time

pub returns-clause-stops : goal.returns-clause-stops
returns-clause-stops g c =
    let before = g.D.Disk.seen c.args.disk.now in
    let mid = g.D.Disk.seen c.write_durably.new.disk in
    let i = g.D.Disk.images c.args.disk.now in
    let j = g.D.Disk.images c.write_durably.new.disk in
    let wrote = at_next c.other-next.result c.args.file 1 c.split_at.result.1.now _ _ _ i j before mid c.other-next.ensures c.split_at.ensures.back
    (record { stops = c.in_ok-write_durably.ensures.stops; time = c.in_ok-write_durably.ensures.time; written = c.in_ok-write_durably.ensures.written; durable = c.in_ok-write_durably.ensures.durable }) in
    keeps_both before mid c.args.file _ _ _ c.args.bytes.now i j (g.D.Disk.images c.change_files.new.disk) (g.met.D.Disk.reads_as_left c.args.disk.now) wrote c.change_files.ensures.stops c.change_files.ensures.time

pub returns-clause-moved : goal.returns-clause-moved
returns-clause-moved g c =
    let before = g.D.Disk.seen c.args.disk.now in
    let mid = g.D.Disk.seen c.write_durably.new.disk in
    let i = g.D.Disk.images c.args.disk.now in
    let j = g.D.Disk.images c.write_durably.new.disk in
    let wrote = at_next c.other-next.result c.args.file 1 c.split_at.result.1.now _ _ _ i j before mid c.other-next.ensures c.split_at.ensures.back
    (record { stops = c.in_ok-write_durably.ensures.stops; time = c.in_ok-write_durably.ensures.time; written = c.in_ok-write_durably.ensures.written; durable = c.in_ok-write_durably.ensures.durable }) in
    has_moved before mid (g.D.Disk.seen c.change_files.new.disk) c.args.file _ _ _ c.args.bytes.now i j (g.D.Disk.images c.change_files.new.disk) (g.met.D.Disk.reads_as_left c.args.disk.now) wrote c.in_ok-change_files.ensures.changed
