use Rattle.std.proofs.{Common.{◌∙◌, refl}, lemmas.Result.IfOk-weaker}
use Rattle.pm_store_apart.specs.ApartLaws.{admits_over}
use Rattle.pm_segment.proofs.segment.SegmentStore.enter.Goals as goal

pub invariant_of-self : goal.invariant_of-self
invariant_of-self g c =
    let grows = c.enter.ensures.notes.1 in
    record {
      rests = grows.rests c.args.self.now.disk c.args.self.now.rests;
      home = grows.lent ∙ c.args.self.now.home;
      at_once = λ at. c.enter.ensures.rest.2 ∙ c.args.self.now.at_once at;
    }

pub returns-clause-notes : goal.returns-clause-notes
returns-clause-notes g c =
    let noted = c.enter.ensures.notes in
    (noted.0, noted.1.moves c.args.self.now.commits c.args.self.now.disk, noted.2)

pub returns-clause-admits : goal.returns-clause-admits
returns-clause-admits g c = IfOk-weaker c.enter.result _ _ (λ pass. admits_over pass c.args.self.now.commits c.args.self.now.disk c.enter.new.self) c.enter.ensures.admits

pub returns-clause-rest : goal.returns-clause-rest
returns-clause-rest g c =
    let keeps = c.enter.ensures.rest in
    (refl, keeps.0, keeps.1, keeps.2)
