use Rattle.std.proofs.Common.{ap, ◌∙◌}
use Rattle.pm_state.specs.Shows.{Ticks}
use Rattle.pm_supervisor_journal.{specs.Standing.{called, later, standing_of}, proofs.Making.stands-ticked}
use Rattle.pm_supervisor_journal.proofs.supervision.Supervision.tick.Goals as goal

pub returns-clause-stands : goal.returns-clause-stands
returns-clause-stands g c = λ limits h was.
    stands-ticked c.laws.ensures.steps c.laws.ensures.journal c.laws.ensures.starts limits _ _ (standing_of c.args.self.now.memory) _ h c.args.at
    c.requires.rests c.requires.unowed
    (c.tick.ensures
    ∙ (ap (λ n. called (Ticks n) (standing_of c.reserve.new.self.memory)) c.later-at.ensures
    ∙ ap (λ x. called (Ticks (later c.args.at x)) x) c.reserve.ensures.standing))
    c.reserve.ensures.told was
