use Rattle.std.proofs.Common.{◌∙◌, refl}
use Rattle.pm_store_apart.specs.ApartLaws.{admits_alone, admits_over}
use Rattle.pm_segment.proofs.segment.SegmentStore.seen.Goals as goal

pub seen-requires-clause-admits : goal.seen-requires-clause-admits
seen-requires-clause-admits g c = admits_alone c.args.pass.now c.args.self.now.commits c.args.self.now.disk c.args.self.now.apart c.requires.admits

pub invariant_of-self : goal.invariant_of-self
invariant_of-self g c =
    let grows = c.seen.ensures.notes.1 in
    record {
      rests = grows.rests c.args.self.now.disk c.args.self.now.rests;
      home = grows.lent ∙ c.args.self.now.home;
      at_once = λ at. c.seen.ensures.rest.2 ∙ c.args.self.now.at_once at;
    }

pub returns-clause-notes : goal.returns-clause-notes
returns-clause-notes g c =
    let noted = c.seen.ensures.notes in
    (noted.0, noted.1.moves c.args.self.now.commits c.args.self.now.disk, noted.2)

pub returns-clause-admits : goal.returns-clause-admits
returns-clause-admits g c = admits_over c.seen.new.pass c.args.self.now.commits c.args.self.now.disk c.seen.new.self c.seen.ensures.admits

pub returns-clause-rest : goal.returns-clause-rest
returns-clause-rest g c =
    let keeps = c.seen.ensures.rest in
    (refl, keeps.0, keeps.1, keeps.2)
