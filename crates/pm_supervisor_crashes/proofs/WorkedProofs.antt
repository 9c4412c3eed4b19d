-- Why the worked journals are so.
use Rattle.std.proofs.{Common.{◌≡◌, inl, inr, true, false, [], ◌∷◌, refl}, Math.Nat.le-add_right, lemmas.Bool.true≢false}
use Rattle.pm_state.specs.{pm_exit.declared.child.{Kind.TheVariants.{Checkpointer, Startup}, Status.TheVariants.Code}, pm_supervisor.Children.is_startup_child, Exits.{crash_rule, is_shutdown, startup_exited}, Journal.{IsLegal, replay_begun, row_of, settled}, TurnRules.{backends_gone, children_gone, dead_ends_gone, end_smart, restart_writer, start_recovery, stop_backends}}
use Rattle.pm_supervisor_journal.specs.Stands.{any_moment}
use Rattle.pm_state.specs.pm_supervisor.declared.Reason.TheVariants as reason
use Rattle.pm_state.specs.pm_supervisor.declared.Ending.TheVariants as endings
use Rattle.pm_state.specs.declared.action.Line.TheVariants as line
use Rattle.pm_state.specs.declared.event.PmEvent.TheVariants as entry
use Rattle.pm_supervisor_crashes.specs.{Crashes.{HasNoCrash, IsFirstCrash, stands_behind}, Ends.EndsAtMostOnce, WorkedEnds.{again, closing, failed, gone, left, limits, made, unmade}}

-- no shutdown is owed for want of pids
owed : {P : Type 0} → false ≡ true → P
owed is = cc

pub made_legal : IsLegal limits any_moment made
unfolding settled row_of crash_rule startup_exited start_recovery restart_writer end_smart stop_backends backends_gone dead_ends_gone children_gone
made_legal = (
  (refl, owed, (refl, refl)),
  (
    (refl, owed, (refl, (le-add_right 0 5, refl))),
    (
      refl,
      (
        refl,
        (
          (refl, refl),
          (
            (refl, refl),
            (
              refl,
              (
                (refl, owed, (le-add_right 5 25, refl)),
                (
                  refl,
                  (
                    (refl, owed, tt),
                    (
                      (refl, owed, (refl, (le-add_right 30 1, refl))),
                      (
                        (refl, owed, tt),
                        ((refl, owed, (refl, (le-add_right 31 1, refl))), ((refl, owed, refl), (refl, tt))),
                      ),
                    ),
                  ),
                ),
              ),
            ),
          ),
        ),
      ),
    ),
  ),
)

pub unmade_legal : IsLegal limits any_moment unmade
unfolding settled row_of crash_rule startup_exited start_recovery restart_writer end_smart stop_backends backends_gone dead_ends_gone children_gone
unmade_legal = (
  (refl, owed, (refl, refl)),
  (
    (refl, owed, (refl, (le-add_right 0 5, refl))),
    (
      refl,
      (
        refl,
        (
          (refl, refl),
          (
            (refl, refl),
            (
              refl,
              (
                (refl, owed, (le-add_right 5 25, refl)),
                (
                  refl,
                  (
                    (refl, owed, tt),
                    (
                      (refl, owed, (refl, (le-add_right 30 1, refl))),
                      (
                        (refl, owed, tt),
                        ((refl, owed, (refl, (le-add_right 31 1, refl))), (refl, (refl, (refl, ((refl, owed, refl), (refl, tt)))))),
                      ),
                    ),
                  ),
                ),
              ),
            ),
          ),
        ),
      ),
    ),
  ),
)

pub failed_legal : IsLegal limits any_moment failed
unfolding settled row_of crash_rule startup_exited start_recovery restart_writer end_smart stop_backends backends_gone dead_ends_gone children_gone
failed_legal = ((refl, owed, (refl, refl)), ((refl, owed, (refl, (le-add_right 0 5, refl))), (refl, (refl, (refl, tt)))))

pub made_clean : HasNoCrash (replay_begun limits) made
unfolding settled row_of crash_rule startup_exited start_recovery restart_writer end_smart stop_backends backends_gone dead_ends_gone children_gone
made_clean = (refl, (refl, (refl, (refl, (refl, (refl, (refl, (refl, (refl, (refl, (refl, (refl, (refl, (refl, (refl, tt)))))))))))))))

pub failed_first : IsFirstCrash limits failed gone
unfolding settled row_of crash_rule startup_exited start_recovery restart_writer end_smart stop_backends backends_gone dead_ends_gone children_gone
failed_first = record {
  before = entry.Started 1 Startup ∷ [];
  behind = entry.Said (line.ChildExit 1 Startup (Code 1)) ∷ entry.Said line.AbortingStartup ∷ entry.Ended endings.StartupFailed ∷ [];
  is = refl;
  none = (refl, tt);
  crash = refl;
}

pub unmade_first : (first : IsFirstCrash limits unmade left) × (is_shutdown (stands_behind limits first.before).state ≡ true)
unfolding settled row_of crash_rule startup_exited start_recovery restart_writer end_smart stop_backends backends_gone dead_ends_gone children_gone
unmade_first = (
  record {
    before = closing;
    behind =
        entry.Said (line.ChildExit 2 Checkpointer (Code 1)) ∷ entry.Said line.TerminatingOthers ∷ entry.QuitSent reason.Crash ∷ entry.Said line.Abnormal
        ∷ entry.Ended endings.AfterCrash ∷ [];
    is = refl;
    none = (refl, (refl, (refl, (refl, (refl, (refl, (refl, (refl, (refl, (refl, (refl, (refl, tt))))))))))));
    crash = refl;
  },
  refl,
)

pub two_refused : ¬ (EndsAtMostOnce is_startup_child again)
two_refused once = elim once.0 [ inl none ↦ true≢false none | inr none ↦ true≢false none.1.1.0 ]
