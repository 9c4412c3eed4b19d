-- Why the worked journals pass, or don't.
use Rattle.std.{proofs.Common.{◌≡◌, true, false, List, [], ◌∷◌, ◌++◌, refl, sym, ◌∙◌, inl, inr}, specs.List.AllByRecursion}
use Rattle.pm_once.specs.{pm_state.{pm_exit.declared.child.{Kind.TheVariants.{Backend, Checkpointer}, Status.TheVariants.{Code, Signal}}, declared.event.PmEvent.PmEvent, Exits.{crash_rule, startup_exited}, Journal.{Replay, all_replayed, replay_begun, replayed, row_of, settled}, TurnRules.{backends_gone, children_gone, dead_ends_gone, end_smart, restart_writer, start_recovery, stop_backends}}, pm_supervisor_chain.{WorkedChains.{clean_journal, failed_journal, started}, WorkedSteps.limits}}
use Rattle.pm_once.specs.pm_state.declared.event.PmEvent.TheVariants as entry
use Rattle.pm_once_completeness.specs.{Crashes.{AreOrderly, AreOrderlySoFar, IsOrderly, is_undone}, WorkedCrashes.{closing, crashed, served, unasked, unmade}}

pub takes_clean : AreOrderly (replay_begun limits) clean_journal
unfolding settled row_of crash_rule startup_exited start_recovery restart_writer end_smart stop_backends backends_gone dead_ends_gone children_gone
takes_clean = (tt, (refl, (tt, (tt, (tt, (tt, (tt, (tt, (refl, (tt, (tt, (tt, (refl, (tt, (refl, (tt, (refl, (tt, (tt, tt)))))))))))))))))))

pub takes_failed : AreOrderlySoFar (replay_begun limits) failed_journal
takes_failed = inr (tt, inl (refl, (tt, (tt, (tt, tt)))))

pub takes_unmade : AreOrderlySoFar (replay_begun limits) (closing ++ unmade)
unfolding settled row_of crash_rule startup_exited start_recovery restart_writer end_smart stop_backends backends_gone dead_ends_gone children_gone
takes_unmade =
    inr (tt, inr (refl, inr (tt, inr (tt, inr (tt, inr (tt, inr (tt, inr (tt, inr (tt, inr (tt, inr (refl, inr (tt, inl (refl, (tt, (tt, (tt, (tt, (tt, tt))))))))))))))))))

-- what stands after a front of an orderly journal
behind : (r : Replay) (front rest : List PmEvent) → AreOrderly r (front ++ rest) → AreOrderly (all_replayed r front) rest
behind r [] rest orderly = orderly
behind r (e ∷ front) rest orderly = behind (replayed r e) front rest orderly.1

-- and where no child has left its work undone
behind_done : (r : Replay) (front rest : List PmEvent) → AllByRecursion (λ e. is_undone e ≡ false) front → AreOrderlySoFar r (front ++ rest) → AreOrderlySoFar (all_replayed r front) rest
behind_done r [] rest done orderly = orderly
behind_done r (e ∷ front) rest done (inl undone) = absurd (let one : false ≡ true = sym done.0 ∙ undone.0 in cc)
behind_done r (e ∷ front) rest done (inr orderly) = behind_done (replayed r e) front rest done.1 orderly.1

pub refuses_unmade : ¬ (AreOrderly (replay_begun limits) (closing ++ unmade))
refuses_unmade orderly = (behind (replay_begun limits) closing unmade orderly).1.1.1.0

first : (r : Replay) (e : PmEvent) (rest : List PmEvent) → is_undone e ≡ false → AreOrderlySoFar r (e ∷ rest) → IsOrderly r.machine e
first r e rest done (inl undone) = absurd (let one : false ≡ true = sym done ∙ undone.0 in cc)
first r e rest done (inr orderly) = orderly.0

pub refuses_unasked : ¬ (AreOrderlySoFar (replay_begun limits) (started ++ unasked))
unfolding settled row_of crash_rule startup_exited start_recovery restart_writer end_smart stop_backends backends_gone dead_ends_gone children_gone
refuses_unasked orderly =
    let rest = behind_done (replay_begun limits) started unasked (refl, (refl, (refl, (refl, (refl, (refl, (refl, tt))))))) orderly in
    absurd (let one : false ≡ true = first (all_replayed (replay_begun limits) started) (entry.Exited 2 Checkpointer (Code 0) false 30) [] refl rest in cc)

pub refuses_crash : ¬ (AreOrderlySoFar (replay_begun limits) (served ++ crashed))
refuses_crash orderly =
    let rest = behind_done (replay_begun limits) served crashed (refl, (refl, (refl, (refl, (refl, (refl, (refl, (refl, tt)))))))) orderly in
    absurd (let one : false ≡ true = first (all_replayed (replay_begun limits) served) (entry.Exited 4 Backend (Signal 6) true 20) [] refl rest in cc)
