use Rattle.pm_segment.{specs.Moment.moment_of, proofs.Lawful.{is_replay, is_run, leaves_acknowledged}}
use Rattle.pm_segment.proofs.segment.Segment.keeps_its_run.Goals as goal

pub returns-clause-run : goal.returns-clause-run
returns-clause-run g c = is_run c.history_laws.ensures.past c.history_laws.ensures.present (moment_of (g.B.Chronicle.entries c.args.self.now.apart.book) c.args.self.now)

pub returns-clause-replay : goal.returns-clause-replay
returns-clause-replay g c = is_replay (moment_of (g.B.Chronicle.entries c.args.self.now.apart.book) c.args.self.now)

pub returns-clause-leaves : goal.returns-clause-leaves
returns-clause-leaves g c = λ origin base. leaves_acknowledged (moment_of (g.B.Chronicle.entries c.args.self.now.apart.book) c.args.self.now) origin base (g.met.D.Disk.reads_as_left c.args.self.now.disk)
