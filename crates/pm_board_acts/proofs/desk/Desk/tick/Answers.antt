use Rattle.std.{proofs.Common.{[], ap, refl}, specs.Prelude.is_some}
use Rattle.pm_supervisor_journal.specs.{Standing.ticking, Supervision.at_work}
use Rattle.pm_board_acts.{specs.Standing.view, proofs.Asking.{makes_of, ticked_goes}}
use Rattle.pm_board_acts.proofs.desk.Desk.tick.Goals as goal

pub returns-clause-ticks : goal.returns-clause-ticks
returns-clause-ticks g c =
    let v = view (at_work c.args.self.now.supervision) c.args.self.now.roster.knows in
    let w = view (at_work c.tick.new.self) c.args.self.now.roster.knows in
    makes_of c.tick.result (ticking c.args.at v.work.standing) [] v w c.tick.ensures.standing c.tick.ensures.standing c.tick.ensures.refused
    (λ after also. ticked_goes c.laws.ensures.work c.laws.ensures.starts c.laws.ensures.journal v w.work c.args.at c.requires.rests c.requires.unowed after c.tick.ensures.told)
    (λ same. (same, c.tick.ensures.told, refl, refl)) refl refl

pub returns-clause-tells : goal.returns-clause-tells
returns-clause-tells g c = ap is_some c.tick.ensures.told
