use Rattle.std.{proofs.Common.{[], ◌∷◌, ◌++◌, ap, ◌∙◌}, specs.Option.option_map}
use Rattle.pm_state.specs.declared.event.PmEvent.TheVariants.{KillAsked}
use Rattle.pm_supervisor_journal.{specs.Standing.{killed, standing_of}, proofs.Making.stands-killed}
use Rattle.pm_supervisor_journal.proofs.supervision.Supervision.kill.Goals as goal

pub returns-clause-stands : goal.returns-clause-stands
returns-clause-stands g c = λ limits h was.
    stands-killed c.laws.ensures.steps c.laws.ensures.journal c.laws.ensures.starts limits _ _ (standing_of c.args.self.now.memory) _ h c.args.pid
    c.requires.rests c.requires.unowed c.requires.there
    (c.remember.ensures.standing ∙ ap (killed c.args.pid) c.reserve.ensures.standing)
    (c.note.ensures.entries ∙ ap (option_map (λ es. es ++ KillAsked c.args.pid ∷ [])) c.reserve.ensures.told)
    was
