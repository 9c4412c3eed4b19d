use Rattle.std.{proofs.Common.{[], ◌∷◌, ◌++◌, ap, ◌∙◌}, specs.Option.option_map}
use Rattle.pm_state.specs.{declared.event.PmEvent.TheVariants.Accepted, Shows.Accepts}
use Rattle.pm_supervisor_journal.{specs.Standing.{called, next_pid, noted, standing_of}, proofs.Making.stands-accepted}
use Rattle.pm_supervisor_journal.proofs.supervision.Supervision.take.Goals as goal

pub returns-clause-stands : goal.returns-clause-stands
returns-clause-stands g c = λ limits h was.
    let s = standing_of c.args.self.now.memory in
    let told = g.J.Chronicle.entries c.args.self.now.journal in
    stands-accepted c.laws.ensures.steps c.laws.ensures.journal c.laws.ensures.starts limits _ _ s _ h
    c.requires.rests c.requires.settled c.requires.may
    (c.remember.ensures.standing
    ∙ (ap (λ y. noted (Accepted (next_pid s) c.accept-decision.result) y) c.accept-decision.ensures.standing
    ∙ ap (λ d. noted (Accepted (next_pid s) d) (called (Accepts (next_pid s)) s)) c.accept-decision.ensures.decision))
    (c.note.ensures.entries ∙ ap (λ d. option_map (λ es. es ++ Accepted (next_pid s) d ∷ []) told) c.accept-decision.ensures.decision)
    was
