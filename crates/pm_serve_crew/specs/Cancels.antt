-- Who asked for the cancels that took effect.
use Rattle.std.specs.{Prelude.{◌≡◌, ℕ, ◌<◌, List, Some}, List.{AllByRecursion, Contains}}
use Rattle.pm_board_acts.specs.{pm_board.Latches.times_told, pm_board_life.pm_latch.Cancelling.{HasKey, request}, pm_worker.Runs.Run}

-- it asked for a cancel of this pid, and showed its key under this seed
pub record AskedRightly (seed : List ℕ) (pid : ℕ) (run : Run) : Type 0 where
  pub key : ℕ
  pub asked : run.asked ≡ Some (pid, key)
  pub keyed : HasKey (request seed pid key)

-- one of these runs did, of the slot k
abbrev pub WasAskedFor : List ℕ → (ℕ → List Run) → ℕ → Type 0
WasAskedFor seed runs pid = (k : ℕ) × (run : Run) × Contains (runs k) run × AskedRightly seed pid run

-- Each child of so many slots that was given a cancel is one for whose pid one was asked for with its key.
abbrev pub CancelsWereAskedFor : List ℕ → (count : ℕ) → (ℕ → List Run) → Type 0
CancelsWereAskedFor seed count runs =
    (k : ℕ) → k < count → AllByRecursion (λ run. 0 < times_told run.heard.given → WasAskedFor seed runs run.child.offer.pid) (runs k)
