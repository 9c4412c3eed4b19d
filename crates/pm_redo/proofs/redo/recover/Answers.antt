use Rattle.std.proofs.Common.{◌≡◌, ◌+◌, rules, true, false}
use Rattle.pm_redo.proofs.Redos.{found_quiet, found_written, is_read, means_only, quiet_barrier, quiet_means, written_barrier, written_means}
use Rattle.pm_redo.proofs.redo.recover.Goals as goal

pub returns-then-not-both-clause-found : goal.returns-then-not-both-clause-found
returns-then-not-both-clause-found g c =
    let before = g.D.Disk.seen c.args.disk.now in
    let from = g.D.Disk.ticks c.args.disk.now + 2 in
    let mid = g.D.Disk.ticks c.read_pair.new.disk in
    let j = g.D.Disk.images c.read_pair.new.disk in
    let is_one : c.in_ok-found.both ≡ false = search (rules, c.if-not-both.true) in
    found_quiet before (g.D.Disk.seen c.read_pair.new.disk) c.in_ok-found.found from mid j c.read_pair.ensures.quiet.seen
    (is_read before c.in_ok-found.found c.in_ok-found.both false from mid j is_one c.in_ok-found.ensures.found c.in_ok-found.ensures.barrier) c.in_ok-found.ensures.synced

pub returns-then-not-both-clause-exact : goal.returns-then-not-both-clause-exact
returns-then-not-both-clause-exact g c = means_only (g.D.Disk.seen c.args.disk.now) c.in_ok-found.found c.in_ok-found.ensures.exact

pub returns-then-not-both-clause-stops : goal.returns-then-not-both-clause-stops
returns-then-not-both-clause-stops g c = quiet_means (g.D.Disk.seen c.args.disk.now) _ _ (g.D.Disk.images c.args.disk.now) (g.D.Disk.images c.read_pair.new.disk) c.read_pair.ensures.quiet.stops

pub returns-then-not-both-clause-barrier : goal.returns-then-not-both-clause-barrier
returns-then-not-both-clause-barrier g c = quiet_barrier (g.D.Disk.seen c.args.disk.now) _ _ _ c.in_ok-found.ensures.barrier

pub returns-clause-found : goal.returns-clause-found
returns-clause-found g c =
    let before = g.D.Disk.seen c.args.disk.now in
    let from = g.D.Disk.ticks c.args.disk.now + 2 in
    let mid = g.D.Disk.ticks c.read_pair.new.disk in
    let to = g.D.Disk.ticks c.write_durably.new.disk in
    let j = g.D.Disk.images c.read_pair.new.disk in
    let k = g.D.Disk.images c.write_durably.new.disk in
    let is_both : c.in_ok-found.both ≡ true = search (rules, c.if-not-both.false) in
    found_written before (g.D.Disk.seen c.read_pair.new.disk) (g.D.Disk.seen c.write_durably.new.disk) c.in_ok-found.found c.other.result from mid to j k
    c.read_pair.ensures.quiet.seen c.other.ensures c.in_ok-write_durably.ensures.written c.in_ok-write_durably.ensures.durable
    (is_read before c.in_ok-found.found c.in_ok-found.both true from mid j is_both c.in_ok-found.ensures.found c.in_ok-found.ensures.barrier)
    c.in_ok-found.ensures.synced c.in_ok-write_durably.ensures.time.later c.in_ok-write_durably.ensures.stops

pub returns-clause-exact : goal.returns-clause-exact
returns-clause-exact g c = means_only (g.D.Disk.seen c.args.disk.now) c.in_ok-found.found c.in_ok-found.ensures.exact

pub returns-clause-stops : goal.returns-clause-stops
returns-clause-stops g c =
    let before = g.D.Disk.seen c.args.disk.now in
    let start = g.D.Disk.ticks c.args.disk.now in
    let mid = g.D.Disk.ticks c.read_pair.new.disk in
    let j = g.D.Disk.images c.read_pair.new.disk in
    let is_both : c.in_ok-found.both ≡ true = search (rules, c.if-not-both.false) in
    written_means before c.in_ok-found.found c.other.result start (start + 2) mid (g.D.Disk.ticks c.write_durably.new.disk)
    (g.D.Disk.images c.args.disk.now) j (g.D.Disk.images c.write_durably.new.disk) c.other.ensures
    (is_read before c.in_ok-found.found c.in_ok-found.both true (start + 2) mid j is_both c.in_ok-found.ensures.found c.in_ok-found.ensures.barrier)
    c.in_ok-found.ensures.synced c.read_pair.ensures.quiet.stops c.read_pair.ensures.quiet.time.later
    c.in_ok-write_durably.ensures.stops c.in_ok-write_durably.ensures.time

pub returns-in_err-write_durably-clause-stops : goal.returns-in_err-write_durably-clause-stops
returns-in_err-write_durably-clause-stops g c =
    let before = g.D.Disk.seen c.args.disk.now in
    let start = g.D.Disk.ticks c.args.disk.now in
    let mid = g.D.Disk.ticks c.read_pair.new.disk in
    let j = g.D.Disk.images c.read_pair.new.disk in
    let is_both : c.in_ok-found.both ≡ true = search (rules, c.if-not-both.false) in
    written_means before c.in_ok-found.found c.other.result start (start + 2) mid (g.D.Disk.ticks c.write_durably.new.disk)
    (g.D.Disk.images c.args.disk.now) j (g.D.Disk.images c.write_durably.new.disk) c.other.ensures
    (is_read before c.in_ok-found.found c.in_ok-found.both true (start + 2) mid j is_both c.in_ok-found.ensures.found c.in_ok-found.ensures.barrier)
    c.in_ok-found.ensures.synced c.read_pair.ensures.quiet.stops c.read_pair.ensures.quiet.time.later
    c.in_err-write_durably.ensures.stops c.in_err-write_durably.ensures.time

pub returns-clause-barrier : goal.returns-clause-barrier
returns-clause-barrier g c =
    let before = g.D.Disk.seen c.args.disk.now in
    let from = g.D.Disk.ticks c.args.disk.now + 2 in
    let mid = g.D.Disk.ticks c.read_pair.new.disk in
    let j = g.D.Disk.images c.read_pair.new.disk in
    let is_both : c.in_ok-found.both ≡ true = search (rules, c.if-not-both.false) in
    written_barrier before c.in_ok-found.found c.other.result from mid _ j _ c.other.ensures
    (is_read before c.in_ok-found.found c.in_ok-found.both true from mid j is_both c.in_ok-found.ensures.found c.in_ok-found.ensures.barrier)
    c.in_ok-found.ensures.synced c.in_ok-write_durably.ensures.stops c.in_ok-write_durably.ensures.time
