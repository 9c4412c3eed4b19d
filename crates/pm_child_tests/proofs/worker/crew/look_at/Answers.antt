use Rattle.std.proofs.Common.{rules, arith, ◌≡◌, length, refl, ap, ◌∙◌}
use Rattle.pm_board.specs.Places.{IsAssigned}
use Rattle.pm_child_tests.proofs.Crews as crews
use Rattle.pm_child_tests.proofs.worker.crew.look_at.Goals as goal

pub release-requires : goal.release-requires
release-requires c =
    let child : IsAssigned c.args.roster.now.knows c.args.slot = search rules in
    let ended = (c.in-Exited.ensures.met child.1.0 child.1.1).1.1 in
    let many : length c.look.new.self.knows.slots ≡ 47 = ended.count ∙ c.requires.0.count in
    (omega arith, (child.1.0, c.in-Exited.status, c.in-Exited.active, ap (λ x. x.sight) ended.here))

pub returns-in-Exited-clause-looked : goal.returns-in-Exited-clause-looked
returns-in-Exited-clause-looked c =
    let child : IsAssigned c.args.roster.now.knows c.args.slot = search rules in
    let ended = (c.in-Exited.ensures.met child.1.0 child.1.1).1.1 in
    let released = (c.release.ensures.slot _ _ _ (ap (λ x. x.sight) ended.here)).4 in
    crews.looked_ended _ _ _ _ _ _ _ _ ended released refl refl refl refl refl

pub returns-in-Exited-clause-freed : goal.returns-in-Exited-clause-freed
returns-in-Exited-clause-freed c =
    let child : IsAssigned c.args.roster.now.knows c.args.slot = search rules in
    let ended = (c.in-Exited.ensures.met child.1.0 child.1.1).1.1 in
    let released = (c.release.ensures.slot _ _ _ (ap (λ x. x.sight) ended.here)).4 in
    ap (λ x. x.sight) released.here
