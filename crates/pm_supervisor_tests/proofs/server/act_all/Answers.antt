use Rattle.std.{proofs.Common.{ap, sym, ◌∙◌}, specs.Prelude.Ok}
use Rattle.pm_supervisor_journal.specs.Supervision.{standing}
use Rattle.pm_supervisor_tests.proofs.Servings.{none}
use Rattle.pm_supervisor_tests.proofs.server.act_all.Goals as goal

pub returns-in-Ok-None-clause-serving : goal.returns-in-Ok-None-clause-serving
returns-in-Ok-None-clause-serving c =
    let past = c.loop.invariant.0 in (
      (past.0, past.1, c.next.ensures.stands past.0 past.1 past.2),
      none (standing c.loop.server) (standing c.next.new.self) c.next.ensures.standing
          (ap Ok (sym c.in-Ok-None.field-0-is) ∙ (sym c.in-Ok-None.is ∙ c.next.ensures.act)),
    )
