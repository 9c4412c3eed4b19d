use Rattle.std.proofs.Common.{[], ◌∷◌, refl}
use Rattle.pm_supervisor_journal.specs.{Standing.asking, Supervision.{at_work, standing}}
use Rattle.pm_board_acts.{specs.Standing.view, proofs.{Calling.past_of, Asking.{asked_goes, makes_of}, Keeping.made_tells}}
use Rattle.pm_board_acts.proofs.desk.Desk.ask.Goals as goal

pub ask-requires-clause-stands : goal.ask-requires-clause-stands
ask-requires-clause-stands g c = past_of _ c.requires.running

pub returns-clause-asks : goal.returns-clause-asks
returns-clause-asks g c =
    let v = view (at_work c.args.self.now.supervision) c.args.self.now.roster.knows in
    let w = view (at_work c.ask.new.self) c.args.self.now.roster.knows in
    λ move asks. makes_of c.ask.result (asking c.args.mode c.args.at v.work.standing) (move ∷ []) v w c.ask.ensures.standing c.ask.ensures.told c.ask.ensures.refused
    (λ after adds. asked_goes c.laws.ensures.work c.laws.ensures.starts c.laws.ensures.journal v w.work c.args.mode c.args.at move c.requires.rests c.requires.may asks after adds)
    (λ same. (same.0, same.1, refl, refl)) refl refl

pub returns-clause-tells : goal.returns-clause-tells
returns-clause-tells g c = made_tells c.ask.result (asking c.args.mode c.args.at (standing c.args.self.now.supervision)).entries _ _ (standing c.args.self.now.supervision) (standing c.ask.new.self) c.ask.ensures.told c.ask.ensures.refused
