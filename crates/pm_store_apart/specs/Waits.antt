-- What is staged, as the log's fields tell it.
use Rattle.std.specs.Prelude.{◌≡◌, ℕ, ◌≤◌, List, [], ◌∷◌, sum_by, Option, None, Some}
use Rattle.pm_log.specs.{pm_rows.declared.commit.Change.Change, Half.more_of, Log.room_of}
use Rattle.pm_log.specs.pm_rows.LogSize as log
use Rattle.pm_stage.specs.Stage.{Waiting, front_of}
use Rattle.pm_store_apart.specs.{declared.live.Live.Live, Fronts.{flushed_of, whole_of}}

-- the bytes of these commits, each as a batch of its own: no batch of some of them needs more
abbrev pub needs_alone : List (List Change) → ℕ
needs_alone commits = sum_by (λ commit. log.need_of (commit ∷ [])) commits

-- It comes after what is flushed, and there is room in the log for all of it, up to a fault of the disk. A file that is being made
-- beside the log's won't be longer.
pub record Waits (live : Live) (stage : Waiting) : Type 0 where
  pub flushed : stage.flushed ≡ flushed_of live
  pub front : whole_of live ≡ front_of stage
  pub needs : live.needs ≡ needs_alone stage.commits
  pub room : live.log.since ≡ None → live.needs ≤ room_of live.log
  pub no_longer : more_of live.log.making ≡ 0

-- so it is after a redo
abbrev pub IsBehind : Option Live → Waiting → Type 0
IsBehind None stage = Unit {0}
IsBehind (Some live) stage = Waits live stage
