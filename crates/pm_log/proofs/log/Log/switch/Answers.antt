use Rattle.std.proofs.Common.{refl}
use Rattle.pm_log.proofs.Begun.{log_moved, switch_lives, switch_still, switch_stops}
use Rattle.pm_log.proofs.log.Log.switch.Goals as goal

pub returns-in-Some-clause-stops : goal.returns-in-Some-clause-stops
returns-in-Some-clause-stops g c =
    switch_still (g.D.Disk.seen c.args.disk.now) c.args.self.now c.args.making (g.D.Disk.ticks c.args.disk.now) (g.D.Disk.images c.args.disk.now)

pub returns-in-Ok-clause-stops : goal.returns-in-Ok-clause-stops
returns-in-Ok-clause-stops g c =
    switch_stops (g.D.Disk.seen c.args.disk.now) c.args.self.now c.args.making _ _ (g.D.Disk.images c.args.disk.now) (g.D.Disk.images c.change_files.new.disk) c.change_files.ensures.stops

pub returns-in-Ok-clause-lives : goal.returns-in-Ok-clause-lives
returns-in-Ok-clause-lives g c =
    switch_lives (g.D.Disk.seen c.args.disk.now) (g.D.Disk.seen c.change_files.new.disk) c.args.self.now _ c.args.making
    (g.D.Disk.images c.args.disk.now (g.D.Disk.ticks c.args.disk.now)) (g.D.Disk.images c.change_files.new.disk (g.D.Disk.ticks c.change_files.new.disk)) c.in-Ok.ensures.changed
    (log_moved c.args.self.now c.args.making c.other-self.result c.epoch-self.result c.base_end-self.result c.done-self.result c.args.self.now.since
    c.other-self.ensures c.epoch-self.ensures c.base_end-self.ensures c.done-self.ensures (rw c.in_default.is refl))

pub returns-clause-stops : goal.returns-clause-stops
returns-clause-stops g c =
    switch_stops (g.D.Disk.seen c.args.disk.now) c.args.self.now c.args.making _ _ (g.D.Disk.images c.args.disk.now) (g.D.Disk.images c.change_files.new.disk) c.change_files.ensures.stops
