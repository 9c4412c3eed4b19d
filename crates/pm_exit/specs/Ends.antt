-- What the end of a child means, as the server's reaper of children sorts it.
use Rattle.std.specs.Prelude.{Bool, false, ◌==◌, ◌&&◌, ◌||◌, if◌then◌else◌, not}
use Rattle.pm_exit.specs.declared.child.{Status.{Status, TheVariants.{Code, Signal}}, Kind.{Kind, TheVariants.{Startup, Checkpointer, Writer, Worker, Backend, DeadEnd}}, Class.{Class, TheVariants.{Normal, Crash, StartupFailed}}}

-- the child ended by itself with exit code 0
abbrev pub is_exit_0 : Status → Bool
is_exit_0 (Code code) = code == 0
is_exit_0 (Signal number) = false

-- the child ended by itself with exit code 1
abbrev pub is_exit_1 : Status → Bool
is_exit_1 (Code code) = code == 1
is_exit_1 (Signal number) = false

-- the class of an end, one line for each kind of child
abbrev pub class_of : Kind → Bool → Bool → Status → Class
class_of Startup in_shutdown was_active status = if is_exit_0 status then Normal else StartupFailed
class_of Checkpointer in_shutdown was_active status = if is_exit_0 status && in_shutdown then Normal else Crash
class_of Writer in_shutdown was_active status = if is_exit_0 status then Normal else Crash
class_of _ in_shutdown was_active status = if (is_exit_0 status || is_exit_1 status) && not was_active then Normal else Crash
