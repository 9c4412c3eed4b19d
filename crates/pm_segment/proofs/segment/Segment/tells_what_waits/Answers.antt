use Rattle.pm_store_apart.proofs.WaitingLaws.{fronts_of, needs_of}
use Rattle.pm_segment.proofs.segment.Segment.tells_what_waits.Goals as goal

pub returns-clause-fronts : goal.returns-clause-fronts
returns-clause-fronts g c = fronts_of c.args.self.now.apart.live c.args.self.now.apart.stage c.args.self.now.apart.behind

pub returns-clause-needs : goal.returns-clause-needs
returns-clause-needs g c = needs_of c.args.self.now.apart.live c.args.self.now.apart.stage c.args.self.now.apart.behind
