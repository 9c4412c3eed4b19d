-- Whether a new connection may become a session: the first line that fits, in the order of PostgreSQL's
-- canAcceptConnections.
use Rattle.std.specs.Prelude.{Bool, true, false, nat_le, not, ◌&&◌, if◌then◌else◌}
use Rattle.pm_admit.specs.declared.{PmState.PmState, Cac.Cac, View.View}
use Rattle.pm_admit.specs.declared.PmState.TheVariants as state
use Rattle.pm_admit.specs.declared.Cac.TheVariants as cac

abbrev pub is_run : PmState → Bool
is_run state.Run = true
is_run _ = false

abbrev pub is_startup : PmState → Bool
is_startup state.Startup = true
is_startup _ = false

abbrev pub decide_of : View → Cac
decide_of v =
    if not (is_run v.state) && v.shutdown then cac.Shutdown
    else if is_startup v.state && not v.fatal then cac.Startup
    else if not (is_run v.state) then cac.Recovery
    else if not v.conns then cac.Shutdown
    else if nat_le v.limit v.children then cac.TooMany
    else cac.Ok
