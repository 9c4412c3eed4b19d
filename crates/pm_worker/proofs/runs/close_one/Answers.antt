use Rattle.std.proofs.Common.{◌∙◌, ap, refl}
use Rattle.pm_board.specs.Told.{child_in}
use Rattle.pm_worker.proofs.Exits.{ends_as, closed}
use Rattle.pm_worker.proofs.runs.close_one.Goals as goal

pub exit-requires-clause-back : goal.exit-requires-clause-back
exit-requires-clause-back g c p active ends =
    let begun = c.requires.1 in
    let o = begun.offer in
    (ap (λ q. q.kind) (ends_as c.args.post.knows.work o p active (ap child_in begun.runs) ends) ∙ begun.fits, refl)

pub returns : goal.returns
returns g c pid met begun = closed c.args.post c.exit.new.self pid met begun c.exit.ensures.knows c.exit.ensures.table c.exit.ensures.slot
