use Rattle.pm_store_apart.specs.ApartLaws.{admits_alone, admits_over}
use Rattle.pm_segment.proofs.segment.SegmentStore.redo.Goals as goal

pub redo-requires-clause-admits : goal.redo-requires-clause-admits
redo-requires-clause-admits g c = admits_alone c.args.pass.now c.args.self.now.commits c.args.self.now.disk c.args.self.now.apart c.requires

pub redo-requires-clause-home : goal.redo-requires-clause-home
redo-requires-clause-home g c = c.args.self.now.home

pub redo-requires-clause-rests : goal.redo-requires-clause-rests
redo-requires-clause-rests g c = c.args.self.now.rests

pub invariant_of-self : goal.invariant_of-self
invariant_of-self g c = record {
  rests = c.redo.ensures.rests;
  home = c.redo.ensures.home;
  at_once = λ at. c.redo.ensures.none (c.args.self.now.at_once at);
}

pub returns-clause-notes : goal.returns-clause-notes
returns-clause-notes g c =
    let noted = c.redo.ensures.notes in
    (noted.0, noted.1 c.args.self.now.commits, noted.2)

pub returns-clause-admits : goal.returns-clause-admits
returns-clause-admits g c = admits_over c.args.pass.now c.args.self.now.commits c.redo.new.disk c.redo.new.self c.redo.ensures.admits
