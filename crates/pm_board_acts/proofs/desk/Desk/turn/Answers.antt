use Rattle.std.{proofs.Common.{[], ap, refl}, specs.Prelude.is_some}
use Rattle.pm_supervisor_journal.specs.{Standing.turning, Supervision.at_work}
use Rattle.pm_board_acts.{specs.Standing.view, proofs.Asking.{makes_of, turned_goes}}
use Rattle.pm_board_acts.proofs.desk.Desk.turn.Goals as goal

pub returns-clause-turns : goal.returns-clause-turns
returns-clause-turns g c =
    let v = view (at_work c.args.self.now.supervision) c.args.self.now.roster.knows in
    let w = view (at_work c.turn.new.self) c.args.self.now.roster.knows in
    makes_of c.turn.result turning [] v w c.turn.ensures.standing c.turn.ensures.standing c.turn.ensures.refused
    (λ after also. turned_goes c.laws.ensures.work c.laws.ensures.starts c.laws.ensures.journal v w.work c.requires.rests c.requires.unowed after c.turn.ensures.told)
    (λ same. (same, c.turn.ensures.told, refl, refl)) refl refl

pub returns-clause-tells : goal.returns-clause-tells
returns-clause-tells g c = ap is_some c.turn.ensures.told
