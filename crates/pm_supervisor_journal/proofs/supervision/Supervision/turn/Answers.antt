use Rattle.std.proofs.Common.{ap, ◌∙◌, arith}
use Rattle.pm_state.specs.{Machine.Turned, Shows.TakesTurn}
use Rattle.pm_supervisor_journal.{specs.Standing.{called, standing_of}, proofs.Making.stands-turned}
use Rattle.pm_supervisor_journal.proofs.supervision.Supervision.turn.Goals as goal

pub invariant_of-self : goal.invariant_of-self
invariant_of-self g c =
    record {
      room = rw (ap (λ x. x.due) c.turn.ensures)
          (omega (arith, c.in_ok-reserve.ensures.journal, c.laws.ensures.starts.few c.reserve.new.self.memory.core Turned));
    }

pub returns-clause-stands : goal.returns-clause-stands
returns-clause-stands g c = λ limits h was.
    stands-turned c.laws.ensures.steps c.laws.ensures.journal c.laws.ensures.starts c.laws.ensures.facts limits _ _ (standing_of c.args.self.now.memory) _ h
    c.requires.rests c.requires.unowed
    (c.turn.ensures ∙ ap (called TakesTurn) c.reserve.ensures.standing)
    c.reserve.ensures.told was
