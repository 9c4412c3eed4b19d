use Rattle.pm_store_apart.{specs.ApartLaws.{admits_alone, admits_over}, proofs.FlushingLaws.flushes_none}
use Rattle.pm_segment.proofs.segment.SegmentStore.flush.Goals as goal

pub flush-requires-clause-admits : goal.flush-requires-clause-admits
flush-requires-clause-admits g c = admits_alone c.args.pass.now c.args.self.now.commits c.args.self.now.disk c.args.self.now.apart c.requires

pub flush-requires-clause-home : goal.flush-requires-clause-home
flush-requires-clause-home g c = c.args.self.now.home

pub flush-requires-clause-rests : goal.flush-requires-clause-rests
flush-requires-clause-rests g c = c.args.self.now.rests

pub invariant_of-self : goal.invariant_of-self
invariant_of-self g c = record {
  rests = c.flush.ensures.rests;
  home = c.flush.ensures.home;
  at_once = λ at. flushes_none _ _ c.flush.result (c.flush.ensures.cause c.args.self.now.commits) (λ quiet. (c.flush.ensures.rest quiet).3) (c.args.self.now.at_once at);
}

pub returns-clause-notes : goal.returns-clause-notes
returns-clause-notes g c =
    let noted = c.flush.ensures.notes in
    (noted.0, noted.1 c.args.self.now.commits, noted.2)

pub returns-clause-admits : goal.returns-clause-admits
returns-clause-admits g c = admits_over c.args.pass.now c.args.self.now.commits c.flush.new.disk c.flush.new.self c.flush.ensures.admits

pub returns-clause-cause : goal.returns-clause-cause
returns-clause-cause g c = c.flush.ensures.cause c.args.self.now.commits
