-- The texts of the log's lines.
use Rattle.std.specs.{Prelude.{ℕ, List, ◌++◌, codes}, Fmt.decimal}
use Rattle.pm_exit.specs.declared.child.{Kind.Kind, Status.Status}
use Rattle.pm_exit.specs.declared.child.Kind.TheVariants as kind
use Rattle.pm_exit.specs.declared.child.Status.TheVariants as status
use Rattle.pm_state.specs.declared.action.Line.{Line}
use Rattle.pm_state.specs.declared.action.Line.TheVariants as line

abbrev pub kind_text : Kind → List ℕ
kind_text kind.Startup = codes "startup"
kind_text kind.Checkpointer = codes "checkpointer"
kind_text kind.Writer = codes "writer"
kind_text kind.Worker = codes "worker"
kind_text kind.Backend = codes "backend"
kind_text kind.DeadEnd = codes "dead-end"

abbrev pub status_text : Status → List ℕ
status_text (status.Code code) = codes ") exited with exit code " ++ decimal code
status_text (status.Signal number) = codes ") was terminated by signal " ++ decimal number

abbrev pub text_of : Line → List ℕ
text_of line.Ready = codes "database system is ready to accept connections"
text_of (line.ChildExit pid kind status) =
    codes "child " ++ (decimal pid ++ (codes " (" ++ (kind_text kind ++ status_text status)))
text_of line.TerminatingOthers = codes "terminating any other active server processes"
text_of line.AbortingStartup = codes "aborting startup due to startup process failure"
text_of line.Smart = codes "received smart shutdown request"
text_of line.Fast = codes "received fast shutdown request"
text_of line.Immediate = codes "received immediate shutdown request"
text_of line.AbortingTransactions = codes "aborting any active transactions"
text_of line.Abnormal = codes "abnormal database system shutdown"
text_of line.Down = codes "database system is shut down"
text_of line.RestartOff = codes "shutting down because restart_after_crash is off"
text_of line.Reinitializing = codes "all server processes terminated; reinitializing"
