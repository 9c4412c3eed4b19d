-- Journals and books of three small servers, and some that were written wrongly.
use Rattle.std.specs.Prelude.{true, false, List, [], ◌∷◌, ◌++◌}
use Rattle.pm_state.specs.pm_exit.declared.child.Kind.TheVariants as kind
use Rattle.pm_state.specs.{pm_exit.declared.child.Status.TheVariants.{Code, Signal}, declared.event.PmEvent.{PmEvent, TheVariants.{Started, Accepted, Exited, Asked, QuitSent, TerminateSent, CheckpointAsked, RedoEnded, Ready, Reset, Said, Ended}}}
use Rattle.pm_state.specs.pm_modes.declared.Mode.TheVariants as mode
use Rattle.pm_state.specs.pm_admit.declared.Cac.TheVariants as decision
use Rattle.pm_state.specs.pm_supervisor.declared.Reason.TheVariants as reason
use Rattle.pm_state.specs.pm_supervisor.declared.Ending.TheVariants as ending
use Rattle.pm_state.specs.declared.action.Line.TheVariants as line
use Rattle.pm_query.specs.declared.book.BookEntry.{BookEntry}
use Rattle.pm_query.specs.declared.book.BookEntry.TheVariants as book

-- the startup child reads a log of three commits, and connections are served
abbrev pub started : List PmEvent
started =
    Started 1 kind.Startup ∷ Exited 1 kind.Startup (Code 0) false 5 ∷ RedoEnded 1 3 ∷ Ready 1 ∷ Started 2 kind.Checkpointer
    ∷ Started 3 kind.Writer ∷ Said line.Ready ∷ []

abbrev pub read : List BookEntry
read = book.Opened 1 ∷ book.Attached 1 1 ∷ book.Redone 1 1 3 ∷ book.Detached 1 ∷ []

-- A session comes and goes, a connection is refused after a smart request, and the last checkpoint is written.
abbrev pub clean_journal : List PmEvent
clean_journal =
    started
    ++ (Accepted 4 decision.Ok ∷ Exited 4 kind.Backend (Code 0) false 20 ∷ Asked mode.Smart 30 ∷ Said line.Smart
    ∷ Accepted 5 decision.Shutdown ∷ Exited 5 kind.DeadEnd (Code 0) false 31 ∷ TerminateSent
    ∷ Exited 3 kind.Writer (Code 0) false 32 ∷ CheckpointAsked ∷ Exited 2 kind.Checkpointer (Code 0) false 40
    ∷ Said line.Down ∷ Ended ending.Clean ∷ [])

abbrev pub clean_book : List BookEntry
clean_book =
    read
    ++ (book.Attached 4 1 ∷ book.Released 4 3 9 ∷ book.Detached 4 ∷ book.Attached 2 1 ∷ book.CheckpointEnded 2 true true
    ∷ book.Detached 2 ∷ [])

-- The disk fails under a session. All others are told to quit, and the next generation reads the log again: a commit more
-- stands there.
abbrev pub crash_journal : List PmEvent
crash_journal =
    started
    ++ (Accepted 4 decision.Ok ∷ Exited 4 kind.Backend (Signal 6) true 20 ∷ Said (line.ChildExit 4 kind.Backend (Signal 6))
    ∷ Said line.TerminatingOthers ∷ QuitSent reason.Crash ∷ Exited 2 kind.Checkpointer (Code 2) false 21
    ∷ Exited 3 kind.Writer (Code 2) false 22 ∷ Said line.Reinitializing ∷ Reset 2 ∷ Started 5 kind.Startup
    ∷ Exited 5 kind.Startup (Code 0) false 30 ∷ RedoEnded 2 4 ∷ Ready 2 ∷ Started 6 kind.Checkpointer ∷ Started 7 kind.Writer
    ∷ Said line.Ready ∷ [])

abbrev pub crash_book : List BookEntry
crash_book =
    read
    ++ (book.Attached 4 1 ∷ book.Broke 4 17 1 ∷ book.Gone 4 ∷ book.Opened 2 ∷ book.Attached 5 2 ∷ book.Redone 5 2 4
    ∷ book.Detached 5 ∷ [])

-- The log can't be read: the startup child gives up, and the server ends.
abbrev pub failed_journal : List PmEvent
failed_journal =
    Started 1 kind.Startup ∷ Exited 1 kind.Startup (Code 1) false 5 ∷ Said (line.ChildExit 1 kind.Startup (Code 1))
    ∷ Said line.AbortingStartup ∷ Ended ending.StartupFailed ∷ []

abbrev pub failed_book : List BookEntry
failed_book = book.Opened 1 ∷ book.Attached 1 1 ∷ book.Broke 1 2 1 ∷ book.Detached 1 ∷ []

-- the second generation's redo is told with the number of the first
abbrev pub miscounted_journal : List PmEvent
miscounted_journal =
    started
    ++ (Accepted 4 decision.Ok ∷ Exited 4 kind.Backend (Signal 6) true 20 ∷ Reset 2 ∷ Started 5 kind.Startup
    ∷ Exited 5 kind.Startup (Code 0) false 30 ∷ RedoEnded 2 3 ∷ [])

-- the child that crashed isn't gone
abbrev pub unlisted_book : List BookEntry
unlisted_book =
    read ++ (book.Attached 4 1 ∷ book.Broke 4 17 1 ∷ book.Opened 2 ∷ book.Attached 5 2 ∷ book.Redone 5 2 4 ∷ [])

-- a child attaches again
abbrev pub twice_book : List BookEntry
twice_book =
    read
    ++ (book.Attached 4 1 ∷ book.Detached 4 ∷ book.Attached 4 1 ∷ book.Broke 4 17 1 ∷ book.Gone 4 ∷ book.Opened 2
    ∷ book.Attached 5 2 ∷ book.Redone 5 2 4 ∷ [])

-- the second generation's startup child attaches in the first
abbrev pub early_book : List BookEntry
early_book =
    read
    ++ (book.Attached 4 1 ∷ book.Broke 4 17 1 ∷ book.Attached 5 1 ∷ book.Detached 5 ∷ book.Gone 4 ∷ book.Opened 2
    ∷ book.Redone 5 2 4 ∷ [])
