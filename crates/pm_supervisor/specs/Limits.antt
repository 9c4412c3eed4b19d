-- What a supervisor may be started with.
use Rattle.std.specs.Prelude.{◌≡◌, ◌⊎◌, ◌+◌, ◌<◌, ◌≤◌}
use Rattle.pm_supervisor.specs.declared.Limits.{Limits}

-- there are no more than 200 sessions and background workers, and no places are reserved, or fewer than there are sessions
pub record IsWithinLimits (limits : Limits) : Type 0 where
  pub few : limits.max_connections + limits.max_worker_processes ≤ 200
  pub leaves : (limits.reserved ≡ 0) ⊎ (limits.reserved < limits.max_connections)
