-- Why the worked steps are steps of the worked chains.
use Rattle.std.proofs.{Common.{◌≡◌, ◌<◌, ℕ, true, false, [], ◌∷◌, refl, inl, inr, arith}, Math.Nat.le-add_right}
use Rattle.pm_query.specs.pm_facts.Bools.{absurd_true}
use Rattle.pm_state.specs.{pm_exit.declared.child.{Kind.Kind, Status.{Status, TheVariants.Code}}, Journal.{IsLegal, settled, row_of}, Exits.{crash_rule, startup_exited}, TurnRules.{start_recovery, restart_writer, end_smart, stop_backends, backends_gone, dead_ends_gone, children_gone}}
use Rattle.pm_state.specs.pm_exit.declared.child.Kind.TheVariants as kind
use Rattle.pm_query.specs.declared.book.BookEntry.TheVariants as book
use Rattle.pm_supervisor_chain.specs.{Steps.{AreSteps, IsRunOf, ends_redo}, WorkedChains.{clean_book, clean_journal, crash_book, crash_journal, failed_book, failed_journal}, WorkedSteps.{Write, any_moment, limits, clean_steps, crash_steps, failed_steps, crashing, failing, last_checkpoint, recovery, run_of, session}}

-- ---- runs

is-recovery : (pid generation kept : ℕ) → IsRunOf (recovery pid generation kept)
is-recovery pid generation kept =
    record {
      use_of_store = inr (record { work = book.Redone pid generation kept ∷ []; noted = refl; of_it = ((refl, refl, refl), tt); serves = refl });
      redo = (refl, inl (refl, refl));
    }

is-outside : (pid : ℕ) (k : Kind) (status : Status) → ends_redo (run_of pid k status []) ≡ false → IsRunOf (run_of pid k status [])
is-outside pid k status none = record { use_of_store = inl (record { noted = refl; inactive = refl }); redo = none }

is-session : IsRunOf (run_of 4 kind.Backend (Code 0) session)
is-session =
    record { use_of_store = inr (record { work = book.Released 4 3 9 ∷ []; noted = refl; of_it = (refl, tt); serves = refl }); redo = refl }

is-checkpoint : IsRunOf (run_of 2 kind.Checkpointer (Code 0) last_checkpoint)
is-checkpoint =
    record {
      use_of_store = inr (record { work = book.CheckpointEnded 2 true true ∷ []; noted = refl; of_it = (refl, tt); serves = refl });
      redo = refl;
    }

is-crashing : IsRunOf crashing
is-crashing =
    record { use_of_store = inr (record { work = book.Broke 4 17 1 ∷ []; noted = refl; of_it = (refl, tt); serves = refl }); redo = refl }

is-failing : IsRunOf (run_of 1 kind.Startup (Code 1) failing)
is-failing =
    record { use_of_store = inr (record { work = book.Broke 1 2 1 ∷ []; noted = refl; of_it = (refl, tt); serves = refl }); redo = refl }

-- ---- steps

room : 0 < 4
room = omega arith

clean-legal : IsLegal limits any_moment clean_journal
unfolding settled row_of crash_rule startup_exited start_recovery restart_writer end_smart stop_backends backends_gone dead_ends_gone children_gone
clean-legal = (
  (refl, absurd_true, (refl, refl)),
  (
    (refl, absurd_true, (refl, (le-add_right 0 5, refl))),
    (
      refl,
      (
        refl,
        (
          (refl, refl),
          (
            (refl, refl),
            (
              refl,
              (
                (refl, absurd_true, ((refl, refl, room), refl, refl)),
                (
                  (refl, absurd_true, (refl, (le-add_right 5 15, refl))),
                  (
                    (refl, absurd_true, (le-add_right 20 10, refl)),
                    (
                      refl,
                      (
                        (refl, absurd_true, ((refl, refl, room), refl, refl)),
                        (
                          (refl, absurd_true, (refl, (le-add_right 30 1, refl))),
                          (
                            (refl, absurd_true, tt),
                            (
                              (refl, absurd_true, (refl, (le-add_right 31 1, refl))),
                              (
                                (refl, absurd_true, tt),
                                (
                                  (refl, absurd_true, (refl, (le-add_right 32 8, refl))),
                                  (
                                    (refl, absurd_true, refl),
                                    (refl, tt),
                                  ),
                                ),
                              ),
                            ),
                          ),
                        ),
                      ),
                    ),
                  ),
                ),
              ),
            ),
          ),
        ),
      ),
    ),
  ),
)

clean-are : AreSteps limits clean_steps
unfolding settled row_of crash_rule startup_exited start_recovery restart_writer end_smart stop_backends backends_gone dead_ends_gone children_gone
clean-are = (
  record { follows = tt; fits = tt },
  (
    record { follows = tt; fits = ((refl, refl), is-recovery 1 1 3) },
    (
      record { follows = tt; fits = tt },
      (
        record { follows = tt; fits = tt },
        (
          record { follows = tt; fits = tt },
          (
            record { follows = tt; fits = tt },
            (
              record { follows = tt; fits = tt },
              (
                record { follows = tt; fits = ((refl, refl), is-session) },
                (
                  record { follows = tt; fits = tt },
                  (
                    record { follows = tt; fits = tt },
                    (
                      record { follows = tt; fits = tt },
                      (
                        record { follows = tt; fits = ((refl, refl), is-outside 5 kind.DeadEnd (Code 0) refl) },
                        (
                          record { follows = tt; fits = tt },
                          (
                            record { follows = tt; fits = ((refl, refl), is-outside 3 kind.Writer (Code 0) refl) },
                            (
                              record { follows = tt; fits = tt },
                              (
                                record { follows = tt; fits = ((refl, refl), is-checkpoint) },
                                (
                                  record { follows = tt; fits = tt },
                                  (record { follows = tt; fits = tt }, tt),
                                ),
                              ),
                            ),
                          ),
                        ),
                      ),
                    ),
                  ),
                ),
              ),
            ),
          ),
        ),
      ),
    ),
  ),
)

pub clean-writes : Write clean_steps clean_journal clean_book
clean-writes = record { journal_is = refl; book_is = refl; legal = clean-legal; steps_are = clean-are }

crash-legal : IsLegal limits any_moment crash_journal
unfolding settled row_of crash_rule startup_exited start_recovery restart_writer end_smart stop_backends backends_gone dead_ends_gone children_gone
crash-legal = (
  (refl, absurd_true, (refl, refl)),
  (
    (refl, absurd_true, (refl, (le-add_right 0 5, refl))),
    (
      refl,
      (
        refl,
        (
          (refl, refl),
          (
            (refl, refl),
            (
              refl,
              (
                (refl, absurd_true, ((refl, refl, room), refl, refl)),
                (
                  (refl, absurd_true, (refl, (le-add_right 5 15, refl))),
                  (
                    refl,
                    (
                      refl,
                      (
                        refl,
                        (
                          (refl, absurd_true, (refl, (le-add_right 20 1, refl))),
                          (
                            (refl, absurd_true, (refl, (le-add_right 21 1, refl))),
                            (
                              (refl, absurd_true, refl),
                              (
                                refl,
                                (
                                  (refl, refl),
                                  (
                                    (refl, absurd_true, (refl, (le-add_right 22 8, refl))),
                                    (
                                      refl,
                                      (
                                        refl,
                                        (
                                          (refl, refl),
                                          (
                                            (refl, refl),
                                            (refl, tt),
                                          ),
                                        ),
                                      ),
                                    ),
                                  ),
                                ),
                              ),
                            ),
                          ),
                        ),
                      ),
                    ),
                  ),
                ),
              ),
            ),
          ),
        ),
      ),
    ),
  ),
)

crash-are : AreSteps limits crash_steps
unfolding settled row_of crash_rule startup_exited start_recovery restart_writer end_smart stop_backends backends_gone dead_ends_gone children_gone
crash-are = (
  record { follows = tt; fits = tt },
  (
    record { follows = tt; fits = ((refl, refl), is-recovery 1 1 3) },
    (
      record { follows = tt; fits = tt },
      (
        record { follows = tt; fits = tt },
        (
          record { follows = tt; fits = tt },
          (
            record { follows = tt; fits = tt },
            (
              record { follows = tt; fits = tt },
              (
                record { follows = tt; fits = ((refl, refl), is-crashing) },
                (
                  record { follows = tt; fits = tt },
                  (
                    record { follows = tt; fits = tt },
                    (
                      record { follows = tt; fits = tt },
                      (
                        record { follows = tt; fits = ((refl, refl), is-outside 2 kind.Checkpointer (Code 2) refl) },
                        (
                          record { follows = tt; fits = ((refl, refl), is-outside 3 kind.Writer (Code 2) refl) },
                          (
                            record { follows = tt; fits = tt },
                            (
                              record { follows = tt; fits = tt },
                              (
                                record { follows = refl; fits = refl },
                                (
                                  record { follows = tt; fits = tt },
                                  (
                                    record { follows = tt; fits = ((refl, refl), is-recovery 5 2 4) },
                                    (
                                      record { follows = tt; fits = tt },
                                      (
                                        record { follows = tt; fits = tt },
                                        (
                                          record { follows = tt; fits = tt },
                                          (record { follows = tt; fits = tt }, tt),
                                        ),
                                      ),
                                    ),
                                  ),
                                ),
                              ),
                            ),
                          ),
                        ),
                      ),
                    ),
                  ),
                ),
              ),
            ),
          ),
        ),
      ),
    ),
  ),
)

pub crash-writes : Write crash_steps crash_journal crash_book
crash-writes = record { journal_is = refl; book_is = refl; legal = crash-legal; steps_are = crash-are }

failed-legal : IsLegal limits any_moment failed_journal
unfolding settled row_of crash_rule startup_exited start_recovery restart_writer end_smart stop_backends backends_gone dead_ends_gone children_gone
failed-legal = (
  (refl, absurd_true, (refl, refl)),
  (
    (refl, absurd_true, (refl, (le-add_right 0 5, refl))),
    (
      refl,
      (
        refl,
        (refl, tt),
      ),
    ),
  ),
)

failed-are : AreSteps limits failed_steps
unfolding settled row_of crash_rule startup_exited start_recovery restart_writer end_smart stop_backends backends_gone dead_ends_gone children_gone
failed-are = (
  record { follows = tt; fits = tt },
  (
    record { follows = tt; fits = ((refl, refl), is-failing) },
    (
      record { follows = tt; fits = tt },
      (
        record { follows = tt; fits = tt },
        (record { follows = tt; fits = tt }, tt),
      ),
    ),
  ),
)

pub failed-writes : Write failed_steps failed_journal failed_book
failed-writes = record { journal_is = refl; book_is = refl; legal = failed-legal; steps_are = failed-are }
