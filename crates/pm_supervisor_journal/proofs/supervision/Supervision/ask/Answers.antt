use Rattle.std.{proofs.Common.{◌≡◌, [], ◌∷◌, ◌++◌, ap, ◌∙◌}, specs.Option.option_map}
use Rattle.pm_state.specs.{declared.event.PmEvent.TheVariants.Asked, Shows.Asks}
use Rattle.pm_supervisor_journal.{specs.Standing.{called, later, noted, standing_of}, proofs.Making.stands-asked}
use Rattle.pm_supervisor_journal.proofs.supervision.Supervision.ask.Goals as goal

pub returns-clause-stands : goal.returns-clause-stands
returns-clause-stands g c = λ limits h was.
    let s = standing_of c.args.self.now.memory in
    let told = g.J.Chronicle.entries c.args.self.now.journal in
    let at = c.later-at.result in
    let is : at ≡ later c.args.at s = c.later-at.ensures ∙ ap (later c.args.at) c.reserve.ensures.standing in
    stands-asked c.laws.ensures.steps c.laws.ensures.journal c.laws.ensures.starts limits _ _ s _ h c.args.mode c.args.at
    c.requires.rests c.requires.may
    (c.remember.ensures.standing
    ∙ (ap (noted (Asked c.args.mode at)) (c.ask.ensures ∙ ap (called (Asks c.args.mode at)) c.reserve.ensures.standing)
    ∙ ap (λ n. noted (Asked c.args.mode n) (called (Asks c.args.mode n) s)) is))
    (c.note.ensures.entries
    ∙ (ap (option_map (λ es. es ++ Asked c.args.mode at ∷ [])) c.reserve.ensures.told
    ∙ ap (λ n. option_map (λ es. es ++ Asked c.args.mode n ∷ []) told) is))
    was
