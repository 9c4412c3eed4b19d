-- Why the worked journals are so.
use Rattle.std.proofs.Common.{◌≡◌, true, false, [], ◌∷◌, ◌++◌, refl}
use Rattle.pm_serve_crew.specs.{pm_exit.declared.child.{Kind.TheVariants.{Backend, Checkpointer, Startup, Writer}, Status.TheVariants.{Code, Signal}}, pm_admit.declared.Cac.TheVariants.Ok as Admitted, pm_state.{Exits.{crash_rule, startup_exited}, Journal.{replay_begun, row_of, settled}, TurnRules.{backends_gone, children_gone, dead_ends_gone, end_smart, restart_writer, start_recovery, stop_backends}}, pm_supervisor_chain.{WorkedChains.{clean_journal, crash_journal, failed_journal, started}, WorkedSteps.limits}}
use Rattle.pm_serve_crew.specs.pm_supervisor.declared.Ending.TheVariants as endings
use Rattle.pm_serve_crew.specs.pm_supervisor.declared.Reason.TheVariants as reason
use Rattle.pm_serve_crew.specs.pm_state.declared.action.Line.TheVariants as line
use Rattle.pm_serve_crew.specs.pm_state.declared.event.PmEvent.TheVariants as entry
use Rattle.pm_supervisor_crashes.specs.Crashes.{HasNoCrash, IsFirstCrash}
use Rattle.pm_serve_first_crash.specs.WorkedFirsts.{given_up_journal, left_journal}

pub clean : HasNoCrash (replay_begun limits) clean_journal
unfolding settled row_of crash_rule startup_exited start_recovery restart_writer end_smart stop_backends backends_gone dead_ends_gone children_gone
clean = (refl, (refl, (refl, (refl, (refl, (refl, (refl, (refl, (refl, (refl, (refl, (refl, (refl, (refl, (refl, (refl, (refl, (refl, (refl, tt)))))))))))))))))))

pub gives_up : HasNoCrash (replay_begun limits) given_up_journal
unfolding settled row_of crash_rule startup_exited start_recovery restart_writer end_smart stop_backends backends_gone dead_ends_gone children_gone
gives_up = (refl, (refl, (refl, (refl, (refl, tt)))))

pub leaves : ¬ (HasNoCrash (replay_begun limits) left_journal)
unfolding settled row_of crash_rule startup_exited start_recovery restart_writer end_smart stop_backends backends_gone dead_ends_gone children_gone
leaves none = absurd (let never : true ≡ false = none.1.0 in cc)

pub crash : IsFirstCrash limits crash_journal (entry.Exited 4 Backend (Signal 6) true 20)
unfolding settled row_of crash_rule startup_exited start_recovery restart_writer end_smart stop_backends backends_gone dead_ends_gone children_gone
crash = record {
  before = started ++ entry.Accepted 4 Admitted ∷ [];
  behind =
      entry.Said (line.ChildExit 4 Backend (Signal 6)) ∷ entry.Said line.TerminatingOthers ∷ entry.QuitSent reason.Crash ∷ entry.Exited 2 Checkpointer (Code 2) false 21
      ∷ entry.Exited 3 Writer (Code 2) false 22 ∷ entry.Said line.Reinitializing ∷ entry.Reset 2 ∷ entry.Started 5 Startup ∷ entry.Exited 5 Startup (Code 0) false 30
      ∷ entry.RedoEnded 2 4 ∷ entry.Ready 2 ∷ entry.Started 6 Checkpointer ∷ entry.Started 7 Writer ∷ entry.Said line.Ready ∷ [];
  is = refl;
  none = (refl, (refl, (refl, (refl, (refl, (refl, (refl, (refl, tt))))))));
  crash = refl;
}

pub failed : IsFirstCrash limits failed_journal (entry.Exited 1 Startup (Code 1) false 5)
unfolding settled row_of crash_rule startup_exited start_recovery restart_writer end_smart stop_backends backends_gone dead_ends_gone children_gone
failed = record { before = entry.Started 1 Startup ∷ []; behind = entry.Said (line.ChildExit 1 Startup (Code 1)) ∷ entry.Said line.AbortingStartup ∷ entry.Ended endings.StartupFailed ∷ []; is = refl; none = (refl, tt); crash = refl }
