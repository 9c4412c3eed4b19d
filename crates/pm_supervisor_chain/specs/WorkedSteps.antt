-- The three servers of the worked chains, step after step.
use Rattle.std.specs.Prelude.{◌≡◌, ℕ, Bool, true, false, List, [], ◌∷◌, ◌++◌, None, Some}
use Rattle.pm_state.specs.{pm_exit.declared.child.{Kind.Kind, Status.{Status, TheVariants.{Code, Signal}}}, pm_supervisor.declared.Limits.Limits, declared.event.PmEvent.{PmEvent, TheVariants.{Started, Accepted, Asked, QuitSent, TerminateSent, CheckpointAsked, Ready, Reset, Said, Ended}}, Journal.IsLegal}
use Rattle.pm_state.specs.pm_exit.declared.child.Kind.TheVariants as kind
use Rattle.pm_state.specs.pm_modes.declared.Mode.TheVariants as mode
use Rattle.pm_state.specs.pm_admit.declared.Cac.TheVariants as decision
use Rattle.pm_state.specs.pm_supervisor.declared.Reason.TheVariants as reason
use Rattle.pm_state.specs.pm_supervisor.declared.Ending.TheVariants as ending
use Rattle.pm_state.specs.declared.action.Line.TheVariants as line
use Rattle.pm_query.specs.declared.book.BookEntry.{BookEntry}
use Rattle.pm_query.specs.declared.book.BookEntry.TheVariants as book
use Rattle.pm_supervisor_chain.specs.Steps.{ChildRun, Step, Notes, Runs, Renews, AreSteps, journal_of, whole_book}

-- a child that was found inactive
abbrev pub run_of : ℕ → Kind → Status → List BookEntry → ChildRun
run_of pid kind status noted =
    record { pid = pid; kind = kind; generation = 1; noted = noted; status = status; was_active = false; kept = None }

-- a startup child that brought the data up to date
abbrev pub recovery : (pid generation kept : ℕ) → ChildRun
recovery pid generation kept =
    record {
      pid = pid;
      kind = kind.Startup;
      generation = generation;
      noted = book.Attached pid generation ∷ book.Redone pid generation kept ∷ book.Detached pid ∷ [];
      status = Code 0;
      was_active = false;
      kept = Some kept;
    }

abbrev pub start : List Step
start =
    Notes (Started 1 kind.Startup) ∷ Runs (recovery 1 1 3) 5 ∷ Notes (Ready 1) ∷ Notes (Started 2 kind.Checkpointer)
    ∷ Notes (Started 3 kind.Writer) ∷ Notes (Said line.Ready) ∷ []

abbrev pub session : List BookEntry
session = book.Attached 4 1 ∷ book.Released 4 3 9 ∷ book.Detached 4 ∷ []

abbrev pub last_checkpoint : List BookEntry
last_checkpoint = book.Attached 2 1 ∷ book.CheckpointEnded 2 true true ∷ book.Detached 2 ∷ []

abbrev pub clean_steps : List Step
clean_steps =
    start
    ++ (Notes (Accepted 4 decision.Ok) ∷ Runs (run_of 4 kind.Backend (Code 0) session) 20 ∷ Notes (Asked mode.Smart 30)
    ∷ Notes (Said line.Smart) ∷ Notes (Accepted 5 decision.Shutdown) ∷ Runs (run_of 5 kind.DeadEnd (Code 0) []) 31
    ∷ Notes TerminateSent ∷ Runs (run_of 3 kind.Writer (Code 0) []) 32 ∷ Notes CheckpointAsked
    ∷ Runs (run_of 2 kind.Checkpointer (Code 0) last_checkpoint) 40 ∷ Notes (Said line.Down) ∷ Notes (Ended ending.Clean) ∷ [])

-- the session that crashes ends inside
abbrev pub crashing : ChildRun
crashing =
    record {
      pid = 4;
      kind = kind.Backend;
      generation = 1;
      noted = book.Attached 4 1 ∷ book.Broke 4 17 1 ∷ [];
      status = Signal 6;
      was_active = true;
      kept = None;
    }

abbrev pub crash_steps : List Step
crash_steps =
    start
    ++ (Notes (Accepted 4 decision.Ok) ∷ Runs crashing 20 ∷ Notes (Said (line.ChildExit 4 kind.Backend (Signal 6)))
    ∷ Notes (Said line.TerminatingOthers) ∷ Notes (QuitSent reason.Crash) ∷ Runs (run_of 2 kind.Checkpointer (Code 2) []) 21
    ∷ Runs (run_of 3 kind.Writer (Code 2) []) 22 ∷ Notes (Said line.Reinitializing) ∷ Notes (Reset 2) ∷ Renews 2 (4 ∷ [])
    ∷ Notes (Started 5 kind.Startup) ∷ Runs (recovery 5 2 4) 30 ∷ Notes (Ready 2) ∷ Notes (Started 6 kind.Checkpointer)
    ∷ Notes (Started 7 kind.Writer) ∷ Notes (Said line.Ready) ∷ [])

abbrev pub failing : List BookEntry
failing = book.Attached 1 1 ∷ book.Broke 1 2 1 ∷ book.Detached 1 ∷ []

abbrev pub failed_steps : List Step
failed_steps =
    Notes (Started 1 kind.Startup) ∷ Runs (run_of 1 kind.Startup (Code 1) failing) 5
    ∷ Notes (Said (line.ChildExit 1 kind.Startup (Code 1))) ∷ Notes (Said line.AbortingStartup) ∷ Notes (Ended ending.StartupFailed) ∷ []

-- ---- what is shown of them

abbrev pub limits : Limits
limits = record { max_connections = 20; max_worker_processes = 0; reserved = 0; restart_after_crash = true }

abbrev pub any_moment : ℕ → Bool
any_moment at = true

-- these steps write this journal and this book, and the journal is legal
pub record Write (steps : List Step) (journal : List PmEvent) (entries : List BookEntry) : Type 0 where
  pub journal_is : journal_of steps ≡ journal
  pub book_is : whole_book steps ≡ entries
  pub legal : IsLegal limits any_moment journal
  pub steps_are : AreSteps limits steps
