use Rattle.pm_state.proofs.{Acts.step-brief, Reports.{step-owes, report, all-done}, Telling.step-tells}
use Rattle.pm_state.proofs.laws.tells_of_each_start.Goals as goal

pub returns : goal.returns
returns c =
    record {
      tells = step-owes;
      report = report;
      done = all-done;
      ends = λ m event other ready. (step-tells m event other ready).ended;
      few = λ m event. (step-brief m event).few;
    }
