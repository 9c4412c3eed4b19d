-- What a pool is made by.
use Rattle.std.specs.Prelude.{ℕ, ◌+◌, ◌*◌, Option, None, Some}
use Rattle.pm_supervisor.specs.declared.Limits.{Limits}
use Rattle.pm_board.specs.pm_board_words.declared.views.SessionLimit.{SessionLimit}
use Rattle.pm_store_shared.specs.{pm_disk.Files.Files}
use Rattle.pm_store_shared.specs.pm_disk.declared.disk.Disk as Disk
use Rattle.pm_serve_crew.specs.Left.{Manner}
use Rattle.pm_serve_pool.specs.declared.plan.{Plan.Plan, Terms.Terms}

-- how many slots its board has
abbrev pub slots_of : Plan → ℕ
slots_of plan = 3 + 2 * (plan.limits.max_connections + plan.limits.max_worker_processes) + 4

-- how many sessions it lets be attached, and how many of these places are reserved
abbrev pub sessions_of : Limits → SessionLimit
sessions_of limits = record { most = limits.max_connections; reserved = limits.reserved }

-- the files that a store was handed, by the disk as it got it
abbrev pub files_of : {D : Type 0} → Disk.Ghosts D → Option D → Option Files
files_of g None = None
files_of g (Some disk) = g.seen disk

-- what its workers go by, where their clocks give these moments, and their store was handed these files
abbrev pub manner_of : {C : Type 0} → (gives : C → ℕ → Type 0) → Terms C → Option Files → Manner
manner_of gives terms files = record {
  seed = terms.plan.seed;
  limit = terms.plan.conf.authentication_ms;
  gives = gives terms.clock.value;
  files = files;
}
