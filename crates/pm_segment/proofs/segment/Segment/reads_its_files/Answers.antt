use Rattle.pm_segment.{specs.Moment.moment_of, proofs.Reading.can_be_read}
use Rattle.pm_segment.proofs.segment.Segment.reads_its_files.Goals as goal

pub returns : goal.returns
returns g c = λ origin base. can_be_read (moment_of (g.B.Chronicle.entries c.args.self.now.apart.book) c.args.self.now) origin base (g.met.D.Disk.reads_as_left c.args.self.now.disk)
