use Rattle.pm_segment.{specs.Moment.moment, proofs.Lawful.stays_clean}
use Rattle.pm_store_apart.proofs.{CheckpointsLaws.clean_stands, WaitingLaws.fronts_of}
use Rattle.pm_segment.proofs.segment.Segment.stays_clean.Goals as goal

pub returns : goal.returns
returns g c =
    let disk = c.args.self.now.disk in
    stays_clean (moment c.args.self.now) (λ live read closed whole.
    clean_stands (g.D.Disk.seen disk) c.args.self.now.apart.live live c.args.self.now.apart.rows c.args.self.now.apart.stage.commits (g.D.Disk.images disk (g.D.Disk.ticks disk)) c.args.self.now.rests (fronts_of c.args.self.now.apart.live c.args.self.now.apart.stage c.args.self.now.apart.behind) (g.met.D.Disk.reads_as_left disk) read closed whole)
