-- By what signals end a session.
use Rattle.std.specs.Prelude.{Bool, true, false, Option, None, Some, ◌≡◌, Result, Ok, Err}
use Rattle.pm_child_life.specs.{pm_supervisor.declared.Reason.Reason, declared.standing.Standing.Standing}
use Rattle.pm_session_exchange.specs.declared.ending.Cause.{Cause, TheVariants.{ToldToTerminate, ToldToQuit, Killed}}

-- by what a session has to end: by a Kill before a Quit, and by a Quit before a Terminate
abbrev pub ends_by : (kill : Bool) → Option Reason → (terminate : Bool) → Option Cause
ends_by true quit terminate = Some Killed
ends_by false (Some reason) terminate = Some (ToldToQuit reason)
ends_by false None true = Some ToldToTerminate
ends_by false None false = None

abbrev pub ends_of : Standing → Option Cause
ends_of standing = ends_by standing.kill standing.quit standing.terminate

-- nothing stands that ends a session, or it has to end by this
abbrev pub EndsIn : Result (Unit {0}) Cause → Standing → Type 0
EndsIn (Ok done) standing = ends_of standing ≡ None
EndsIn (Err cause) standing = ends_of standing ≡ Some cause
