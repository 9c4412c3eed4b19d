-- Journals with no crash, and the first crash of some others.
use Rattle.std.specs.Prelude.{false, true, List, [], ◌∷◌}
use Rattle.pm_serve_crew.specs.{pm_exit.declared.child.{Kind.TheVariants.{Backend, Startup}, Status.TheVariants.{Code, Signal}}, pm_modes.declared.Mode.TheVariants.Smart, pm_state.{declared.event.PmEvent.PmEvent, Journal.replay_begun}, pm_supervisor_chain.{WorkedChains.{clean_journal, crash_journal, failed_journal}, WorkedSteps.limits}}
use Rattle.pm_serve_crew.specs.pm_state.declared.action.Line.TheVariants as line
use Rattle.pm_serve_crew.specs.pm_state.declared.event.PmEvent.TheVariants as entry
use Rattle.pm_supervisor_crashes.specs.Crashes.{HasNoCrash, IsFirstCrash}

-- the startup child gives up, since a shutdown was asked for
abbrev pub given_up_journal : List PmEvent
given_up_journal = entry.Started 1 Startup ∷ entry.Asked Smart 3 ∷ entry.Said line.Smart ∷ entry.TerminateSent ∷ entry.Exited 1 Startup (Code 1) false 4 ∷ []

-- and here none was
abbrev pub left_journal : List PmEvent
left_journal = entry.Started 1 Startup ∷ entry.Exited 1 Startup (Code 1) false 4 ∷ []

pub record WorkedFirsts : Type 0 where
  pub clean : HasNoCrash (replay_begun limits) clean_journal
  pub given_up : HasNoCrash (replay_begun limits) given_up_journal
  pub left : ¬ (HasNoCrash (replay_begun limits) left_journal)
  pub crash : IsFirstCrash limits crash_journal (entry.Exited 4 Backend (Signal 6) true 20)
  pub failed : IsFirstCrash limits failed_journal (entry.Exited 1 Startup (Code 1) false 5)
