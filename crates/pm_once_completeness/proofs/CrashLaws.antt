-- What the law on crashes says of a run of `once`.
use Rattle.std.proofs.Common.{◌≡◌, ◌⊎◌, inl, inr, subst}
use Rattle.pm_once.specs.{pm_disk.Cause.Rose, pm_state.Journal.replay_begun, pm_supervisor_chain.Steps.journal_of, pm_server.{Ends.IsSound, declared.{conf.Conf.Conf, end.ServerEnd.{ServerEnd, TheVariants.{Clean, NoMemory}}}, Outside.OutsideView}, Once.{IsOnceEnd, IsOnceRun}}
use Rattle.pm_once_completeness.specs.Crashes.{AreOrderly, AreOrderlySoFar, AreUnharmed, CompletesItsRuns}

pub run_unharmed : (conf : Conf) (end : ServerEnd) (before now : OutsideView) (run : IsOnceRun conf end before now)
    → ¬ (Rose before.disk.faults now.disk.faults) → AreUnharmed conf.limits run.steps
run_unharmed conf end before now run unfailed = record {
  legal = run.journal.legal;
  are_steps = run.are_steps;
  smart = run.asked.smart;
  runs = run.runs;
  ends = run.unharmed unfailed;
}

-- over a disk that didn't fail no child crashed, but for one that left its work undone
pub run_orderly : CompletesItsRuns → (conf : Conf) (end : ServerEnd) (before now : OutsideView) (run : IsOnceRun conf end before now)
    → ¬ (Rose before.disk.faults now.disk.faults) → AreOrderlySoFar (replay_begun conf.limits) (journal_of run.steps)
run_orderly law conf end before now run unfailed = law.orderly conf.limits run.steps (run_unharmed conf end before now run unfailed)

-- where the files say something too, and their epoch isn't the last, the server ended clean, without any, or for want of memory
pub run_complete : CompletesItsRuns → (conf : Conf) (end : ServerEnd) (before now : OutsideView) (run : IsOnceRun conf end before now) → IsSound before.disk now.disk
    → ((end ≡ Clean) × AreOrderly (replay_begun conf.limits) (journal_of run.steps)) ⊎ (end ≡ NoMemory)
run_complete law conf end before now run sound = elim (run.well sound) [
  | inl clean ↦ inl (
    clean,
    law.clean conf.limits run.steps (run_unharmed conf end before now run sound.unfailed) (subst (λ (x : ServerEnd). IsOnceEnd conf.limits x run.steps) clean run.ends),
  )
  | inr short ↦ inr short
]
