use Rattle.pm_once_completeness.proofs.WorkedCrashProofs.{refuses_crash, refuses_unasked, refuses_unmade, takes_clean, takes_failed, takes_unmade}
use Rattle.pm_once_completeness.proofs.laws.worked_crashes.Goals as goal

pub returns : goal.returns
returns c = record {
  takes_clean = takes_clean;
  takes_failed = takes_failed;
  takes_unmade = takes_unmade;
  refuses_unmade = refuses_unmade;
  refuses_unasked = refuses_unasked;
  refuses_crash = refuses_crash;
}
