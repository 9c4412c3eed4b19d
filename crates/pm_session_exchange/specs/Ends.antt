-- As what a child exits, by what its session ended.
use Rattle.pm_exit.specs.declared.child.Status.{Status}
use Rattle.pm_exit.specs.declared.child.Status.TheVariants as statuses
use Rattle.pm_startup.specs.declared.packet.StartFault.TheVariants.{Length}
use Rattle.pm_session_exchange.specs.declared.ending.Cause.{Cause, TheVariants.{Terminated, Cancelling, LinkEnded, LinkFailed, TimedOut, PacketRefused, MessageRefused, DecisionRefused, GateRefused, ShortOfMemory, Panicked, ToldToTerminate, ToldToQuit, Killed, Overtaken}}

-- ---- endings

-- how the child exits
abbrev pub status_by : Cause → Status
status_by Terminated = statuses.Code 0
status_by Cancelling = statuses.Code 0
status_by LinkEnded = statuses.Code 0
status_by (PacketRefused (Length seen)) = statuses.Code 0
status_by (ToldToQuit reason) = statuses.Code 2
status_by Panicked = statuses.Signal 6
status_by Overtaken = statuses.Signal 6
status_by Killed = statuses.Signal 9
status_by _ = statuses.Code 1

-- ---- the whole

-- A child that exits of itself lets go of the store and of its attachment. A panic, a Quit and a Kill leave both to the
-- supervisor.
abbrev pub LetsGo : Cause → Type 0 → Type 0 → Type 0
LetsGo Panicked leaves stays = stays
LetsGo (ToldToQuit reason) leaves stays = stays
LetsGo Killed leaves stays = stays
LetsGo Overtaken leaves stays = stays
LetsGo _ leaves stays = leaves
