-- What workers tell of the children that they ran, and how that is tied to the journal.
use Rattle.std.specs.{Prelude.{◌≡◌, ◌⊎◌, ℕ, ◌<◌, ◌==◌, Bool, true, false, List, [], ◌∷◌, map, length}, List.AllByRecursion}
use Rattle.pm_board.specs.{pm_exit.declared.child.Status.Status, pm_board_words.declared.views.{PastChild.PastChild, RosterView.RosterView}, Places.{is_auxiliary, slot_at}}
use Rattle.pm_board.specs.pm_exit.declared.child.Status.TheVariants as status
use Rattle.pm_supervisor_chain.specs.{pm_state.declared.event.PmEvent.PmEvent, Steps.ChildRun}
use Rattle.pm_board_acts.specs.{Seating.{Move, Notes, Begun, Ended, ends}, Board.{begun_of, ended_of}}

-- a run as it began, and as it ended
abbrev pub run_begun : ChildRun → Begun
run_begun run = record { pid = run.pid; kind = run.kind; generation = run.generation }

abbrev pub run_ended : ChildRun → Ended
run_ended run = record { pid = run.pid; kind = run.kind; status = run.status; was_active = run.was_active }

module _ {D : Type 0} where
  -- the runs are those of these children, one for one and in order
  pub record AreRunsOf (runs : List ChildRun) (past : List (PastChild D)) : Type 0 where
    pub begun : map run_begun runs ≡ map begun_of past
    pub ended : map run_ended runs ≡ map ended_of past

  -- once the post of each slot was taken in, the worker's runs are those of the slot's children
  abbrev pub AreGatheredRuns : (ℕ → List ChildRun) → RosterView D → Type 0
  AreGatheredRuns runs d = (k : ℕ) → k < length d.slots → AreRunsOf (runs k) (slot_at d k).past

-- the end of a child is that of one of these runs
abbrev pub IsEndOf : Ended → List ChildRun → Type 0
IsEndOf end [] = ⊥
IsEndOf end (run ∷ runs) = (run_ended run ≡ end) ⊎ IsEndOf end runs

-- each end in the journal is that of a run of the worker of some slot
abbrev pub EndsAreRuns : ℕ → (ℕ → List ChildRun) → List PmEvent → Type 0
EndsAreRuns count runs journal =
    AllByRecursion (λ e. AllByRecursion (λ end. (k : ℕ) × (k < count) × IsEndOf end (runs k)) (ends e)) journal

-- the moves tell of slots of this board alone
abbrev pub IsOnBoard : ℕ → Move → Type 0
IsOnBoard count (Notes noted slot) = slot < count
IsOnBoard count _ = Unit {0}

-- so a child may end whose slot is still active
abbrev pub may_end_active : Status → Bool
may_end_active (status.Signal number) = true
may_end_active (status.Code code) = code == 2

-- of a child that answers a connection or works in the background the slot was active only where it was ended so
abbrev pub EndsActiveAs : Ended → Type 0
EndsActiveAs end = is_auxiliary end.kind ≡ false → end.was_active ≡ true → may_end_active end.status ≡ true
