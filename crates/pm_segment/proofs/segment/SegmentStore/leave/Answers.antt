use Rattle.std.proofs.Common.{◌∙◌, inl, refl}
use Rattle.pm_store_apart.specs.ApartLaws.{admits_alone}
use Rattle.pm_segment.proofs.segment.SegmentStore.leave.Goals as goal

pub leave-requires : goal.leave-requires
leave-requires g c = admits_alone c.args.pass c.args.self.now.commits c.args.self.now.disk c.args.self.now.apart c.requires

pub invariant_of-self : goal.invariant_of-self
invariant_of-self g c =
    let grows = c.leave.ensures.left in
    record {
      rests = grows.rests c.args.self.now.disk c.args.self.now.rests;
      home = grows.lent ∙ c.args.self.now.home;
      at_once = λ at. c.leave.ensures.rest.2 ∙ c.args.self.now.at_once at;
    }

pub returns-clause-notes : goal.returns-clause-notes
returns-clause-notes g c =
    let noted = c.leave.ensures.notes in
    (noted.0, noted.1.moves c.args.self.now.commits c.args.self.now.disk, noted.2)

pub returns-clause-stale : goal.returns-clause-stale
returns-clause-stale g c = inl (c.leave.ensures.left.moves c.args.self.now.commits c.args.self.now.disk)

pub returns-clause-rest : goal.returns-clause-rest
returns-clause-rest g c =
    let keeps = c.leave.ensures.rest in
    (refl, keeps.0, keeps.1, keeps.2)
