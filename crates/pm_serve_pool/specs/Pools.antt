-- What is known of a pool.
use Rattle.std.specs.Prelude.{◌≡◌, ℕ, Option, map, length}
use Rattle.pm_supervisor.specs.Limits.{IsWithinLimits}
use Rattle.atomic_table.specs.Seated.{TableId}
use Rattle.pm_spawn.specs.Works.{work_of}
use Rattle.pm_serve_pool.specs.{declared.{plan.Terms.Terms, pool.Pool.Pool}, Plan.slots_of, Works.{EachFrom, IsWorkOf}}

-- by these terms there are no more slots than a board may have
abbrev pub IsWithin : {C : Type 0} → Terms C → Type 0
IsWithin terms = IsWithinLimits terms.plan.limits

-- The threads of a pool do the works of all slots of this board, one for each, over this store, which got this disk.
pub record IsPool {R C L D B X : Type 0} {link : _} (gives : C → ℕ → Type 0) (board home : TableId) (first : Option D) (pool : Pool R C L D B X link) : Type 0 where
  pub within : IsWithin pool.terms
  pub count : length pool.workers.items ≡ slots_of pool.terms.plan
  pub each : EachFrom (IsWorkOf gives pool.terms board home first) 0 (map work_of pool.workers.items)
