use Rattle.pm_store_apart.specs.ApartLaws.{admits_alone, admits_over}
use Rattle.pm_segment.proofs.segment.SegmentStore.checkpoint.Goals as goal

pub checkpoint-requires-clause-admits : goal.checkpoint-requires-clause-admits
checkpoint-requires-clause-admits g c = admits_alone c.args.pass.now c.args.self.now.commits c.args.self.now.disk c.args.self.now.apart c.requires

pub checkpoint-requires-clause-home : goal.checkpoint-requires-clause-home
checkpoint-requires-clause-home g c = c.args.self.now.home

pub checkpoint-requires-clause-rests : goal.checkpoint-requires-clause-rests
checkpoint-requires-clause-rests g c = c.args.self.now.rests

pub invariant_of-self : goal.invariant_of-self
invariant_of-self g c = record {
  rests = c.checkpoint.ensures.rests;
  home = c.checkpoint.ensures.home;
  at_once = λ at. c.checkpoint.ensures.none (c.args.self.now.at_once at);
}

pub returns-clause-notes : goal.returns-clause-notes
returns-clause-notes g c =
    let noted = c.checkpoint.ensures.notes in
    (noted.0, noted.1 c.args.self.now.commits, noted.2)

pub returns-clause-admits : goal.returns-clause-admits
returns-clause-admits g c = admits_over c.args.pass.now c.args.self.now.commits c.checkpoint.new.disk c.checkpoint.new.self c.checkpoint.ensures.admits

pub returns-clause-flushed : goal.returns-clause-flushed
returns-clause-flushed g c = c.checkpoint.ensures.flushed c.args.self.now.commits
