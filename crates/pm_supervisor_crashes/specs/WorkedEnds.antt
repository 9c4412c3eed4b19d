-- Journals that the law of ends speaks of, and one that it would refuse.
use Rattle.std.specs.{Prelude.{◌≡◌, false, true, List, [], ◌∷◌, ◌++◌}, List.AllByRecursion}
use Rattle.pm_state.specs.{pm_exit.declared.child.{Kind.TheVariants.{Checkpointer, Startup, Writer}, Status.TheVariants.Code}, pm_modes.declared.Mode.TheVariants.Smart, pm_supervisor.{declared.Limits.Limits, Children.is_startup_child}, declared.event.PmEvent.PmEvent, Exits.is_shutdown, Journal.{IsLegal, replay_begun}}
use Rattle.pm_supervisor_journal.specs.Stands.{any_moment}
use Rattle.pm_state.specs.pm_supervisor.declared.Reason.TheVariants as reason
use Rattle.pm_state.specs.pm_supervisor.declared.Ending.TheVariants as endings
use Rattle.pm_state.specs.declared.action.Line.TheVariants as line
use Rattle.pm_state.specs.declared.event.PmEvent.TheVariants as entry
use Rattle.pm_supervisor_crashes.specs.{Crashes.{HasNoCrash, IsFirstCrash, IsUnasked, stands_behind}, Ends.{EndsAtMostOnce, IsNoReset}}

abbrev pub limits : Limits
limits = record { max_connections = 20; max_worker_processes = 0; reserved = 0; restart_after_crash = true }

-- connections are served, a smart shutdown is asked for, and the last checkpoint
abbrev pub closing : List PmEvent
closing =
    entry.Started 1 Startup ∷ entry.Exited 1 Startup (Code 0) false 5 ∷ entry.RedoEnded 1 3 ∷ entry.Ready 1
    ∷ entry.Started 2 Checkpointer ∷ entry.Started 3 Writer ∷ entry.Said line.Ready ∷ entry.Asked Smart 30 ∷ entry.Said line.Smart
    ∷ entry.TerminateSent ∷ entry.Exited 3 Writer (Code 0) false 31 ∷ entry.CheckpointAsked ∷ []

-- the checkpointer makes it
abbrev pub made : List PmEvent
made = closing ++ entry.Exited 2 Checkpointer (Code 0) false 32 ∷ entry.Said line.Down ∷ entry.Ended endings.Clean ∷ []

-- or it can't
abbrev pub left : PmEvent
left = entry.Exited 2 Checkpointer (Code 1) false 32

abbrev pub unmade : List PmEvent
unmade =
    closing
    ++ left ∷ entry.Said (line.ChildExit 2 Checkpointer (Code 1)) ∷ entry.Said line.TerminatingOthers
    ∷ entry.QuitSent reason.Crash ∷ entry.Said line.Abnormal ∷ entry.Ended endings.AfterCrash ∷ []

-- the startup child can't redo
abbrev pub gone : PmEvent
gone = entry.Exited 1 Startup (Code 1) false 5

abbrev pub failed : List PmEvent
failed =
    entry.Started 1 Startup ∷ gone ∷ entry.Said (line.ChildExit 1 Startup (Code 1)) ∷ entry.Said line.AbortingStartup
    ∷ entry.Ended endings.StartupFailed ∷ []

-- a part of the journal of a server that goes on after a crash
abbrev pub again : List PmEvent
again = entry.Exited 1 Startup (Code 0) false 5 ∷ entry.Reset 2 ∷ entry.Started 4 Startup ∷ entry.Exited 4 Startup (Code 0) false 9 ∷ []

-- nobody disturbs it
abbrev pub IsQuiet : List PmEvent → Type 0
IsQuiet journal = IsLegal limits any_moment journal × AllByRecursion IsUnasked journal

pub record WorkedEnds : Type 0 where
  pub made_quiet : IsQuiet made
  pub made_clean : HasNoCrash (replay_begun limits) made
  pub failed_quiet : IsQuiet failed
  pub failed_first : IsFirstCrash limits failed gone
  pub unmade_quiet : IsQuiet unmade
  pub unmade_first : (first : IsFirstCrash limits unmade left) × (is_shutdown (stands_behind limits first.before).state ≡ true)
  pub two_refused : ¬ (EndsAtMostOnce is_startup_child again)
  pub reset_refused : ¬ (AllByRecursion IsNoReset again)
