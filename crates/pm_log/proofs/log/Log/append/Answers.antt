use Rattle.std.proofs.Common.{◌∙◌, ap, length, List, ℕ, rules, arith}
use Rattle.pm_log.proofs.{Appends.{stops_still, stops_written}, Halves.told_beside}
use Rattle.pm_log.proofs.log.Log.append.Goals as goal

pub returns-in_err-spelled-clause-stops : goal.returns-in_err-spelled-clause-stops
returns-in_err-spelled-clause-stops g c =
    stops_still (g.D.Disk.seen c.args.disk.now) c.args.self.now c.args.batch.now (g.D.Disk.ticks c.args.disk.now) (g.D.Disk.images c.args.disk.now)

pub returns-then-need-room-clause-stops : goal.returns-then-need-room-clause-stops
returns-then-need-room-clause-stops g c =
    stops_still (g.D.Disk.seen c.args.disk.now) c.args.self.now c.args.batch.now (g.D.Disk.ticks c.args.disk.now) (g.D.Disk.images c.args.disk.now)

pub returns-then-is_err-clause-stops : goal.returns-then-is_err-clause-stops
returns-then-is_err-clause-stops g c =
    stops_written (g.D.Disk.seen c.args.disk.now) c.args.self.now c.args.batch.now c.as_slice-bytes.result.now _ _ (g.D.Disk.images c.args.disk.now) (g.D.Disk.images c.write_batch.new.disk)
    c.write_batch.ensures.stops (c.as_slice-bytes.ensures ∙ c.in_ok-spelled.ensures.bytes) (ap (λ (l : List ℕ). length l) c.as_slice-bytes.ensures ∙ c.in_ok-spelled.ensures.size)

pub returns-clause-stops : goal.returns-clause-stops
returns-clause-stops g c =
    stops_written (g.D.Disk.seen c.args.disk.now) c.args.self.now c.args.batch.now c.as_slice-bytes.result.now _ _ (g.D.Disk.images c.args.disk.now) (g.D.Disk.images c.write_batch.new.disk)
    c.write_batch.ensures.stops (c.as_slice-bytes.ensures ∙ c.in_ok-spelled.ensures.bytes) (ap (λ (l : List ℕ). length l) c.as_slice-bytes.ensures ∙ c.in_ok-spelled.ensures.size)

pub returns-clause-makes : goal.returns-clause-makes
returns-clause-makes g c =
    told_beside (g.D.Disk.seen c.args.disk.now) (g.D.Disk.seen c.write_batch.new.disk) c.args.self.now.file c.args.self.now.end _ c.args.batch.now c.as_slice-bytes.result.now
    (c.as_slice-bytes.ensures ∙ c.in_ok-spelled.ensures.bytes) (omega arith) (search (rules, c.write_batch.ensures.grows)) c.write_batch.ensures.beside
