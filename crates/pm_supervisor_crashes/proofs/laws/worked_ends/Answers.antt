use Rattle.pm_supervisor_crashes.proofs.WorkedProofs.{failed_first, failed_legal, made_clean, made_legal, two_refused, unmade_first, unmade_legal}
use Rattle.pm_supervisor_crashes.proofs.laws.worked_ends.Goals as goal

pub returns : goal.returns
returns c = record {
  made_quiet = (made_legal, (tt, (tt, (tt, (tt, (tt, (tt, (tt, (tt, (tt, (tt, (tt, (tt, (tt, (tt, (tt, tt))))))))))))))));
  made_clean = made_clean;
  failed_quiet = (failed_legal, (tt, (tt, (tt, (tt, (tt, tt))))));
  failed_first = failed_first;
  unmade_quiet = (unmade_legal, (tt, (tt, (tt, (tt, (tt, (tt, (tt, (tt, (tt, (tt, (tt, (tt, (tt, (tt, (tt, (tt, (tt, (tt, tt)))))))))))))))))));
  unmade_first = unmade_first;
  two_refused = two_refused;
  reset_refused = λ none. none.1.0;
}
