-- Journals that the definitions of crashes let pass, and some that they refuse.
use Rattle.std.specs.Prelude.{false, true, List, [], ◌∷◌, ◌++◌}
use Rattle.pm_once.specs.{pm_state.{pm_exit.declared.child.{Kind.TheVariants.{Backend, Checkpointer, Writer}, Status.TheVariants.{Code, Signal}}, pm_modes.declared.Mode.TheVariants.Smart, pm_admit.declared.Cac.TheVariants.Ok as Admitted, declared.event.PmEvent.PmEvent, Journal.replay_begun}, pm_supervisor_chain.{WorkedChains.{clean_journal, failed_journal, started}, WorkedSteps.limits}}
use Rattle.pm_once.specs.pm_state.pm_supervisor.declared.Reason.TheVariants as reason
use Rattle.pm_once.specs.pm_state.pm_supervisor.declared.Ending.TheVariants as endings
use Rattle.pm_once.specs.pm_state.declared.action.Line.TheVariants as line
use Rattle.pm_once.specs.pm_state.declared.event.PmEvent.TheVariants as entry
use Rattle.pm_once_completeness.specs.Crashes.{AreOrderly, AreOrderlySoFar}

-- the last checkpoint is asked for
abbrev pub closing : List PmEvent
closing =
    started
    ++ (entry.Asked Smart 30 ∷ entry.Said line.Smart ∷ entry.TerminateSent ∷ entry.Exited 3 Writer (Code 0) false 31
    ∷ entry.CheckpointAsked ∷ [])

-- the checkpointer can't make it, and the server ends
abbrev pub unmade : List PmEvent
unmade =
    entry.Exited 2 Checkpointer (Code 1) false 32 ∷ entry.Said (line.ChildExit 2 Checkpointer (Code 1)) ∷ entry.Said line.TerminatingOthers
    ∷ entry.QuitSent reason.Crash ∷ entry.Said line.Abnormal ∷ entry.Ended endings.AfterCrash ∷ []

-- it ends without having been asked to
abbrev pub unasked : List PmEvent
unasked = entry.Exited 2 Checkpointer (Code 0) false 30 ∷ []

-- a session crashes
abbrev pub served : List PmEvent
served = started ++ entry.Accepted 4 Admitted ∷ []

abbrev pub crashed : List PmEvent
crashed = entry.Exited 4 Backend (Signal 6) true 20 ∷ []

pub record WorkedCrashes : Type 0 where
  pub takes_clean : AreOrderly (replay_begun limits) clean_journal
  pub takes_failed : AreOrderlySoFar (replay_begun limits) failed_journal
  pub takes_unmade : AreOrderlySoFar (replay_begun limits) (closing ++ unmade)
  pub refuses_unmade : ¬ (AreOrderly (replay_begun limits) (closing ++ unmade))
  pub refuses_unasked : ¬ (AreOrderlySoFar (replay_begun limits) (started ++ unasked))
  pub refuses_crash : ¬ (AreOrderlySoFar (replay_begun limits) (served ++ crashed))
