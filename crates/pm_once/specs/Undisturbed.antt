-- A server that nothing has disturbed: no fault of its disk was counted, and nobody has asked it to shut down.
use Rattle.std.specs.{Prelude.{◌≡◌, ◌⊎◌, ℕ, true, List, is_some}, List.{AllByRecursion, list_any}}
use Rattle.pm_segment.specs.{pm_disk.Cause.Rose, Moves.IsCountedFrom}
use Rattle.pm_supervisor_chain.specs.Steps.{Step, journal_of}
use Rattle.pm_once.specs.View.{View}
use Rattle.pm_once_children.specs.Calm.{IsCalm, is_behind_crash, HasFineSession}

-- a fault of the disk was counted, or a shutdown was asked for, or it is calm
abbrev pub IsDisturbedSo : (from : ℕ) → View → Type 0
IsDisturbedSo from v =
    Rose from v.store.faults ⊎ ((is_some v.work.standing.machine.shutdown ≡ true) ⊎ IsCalm v.work.standing v.auxiliaries)

-- So it is where the disk's count of faults was this one at first. It has come to what a crash leads to, or a session's child
-- has crashed, only where a fault was counted.
pub record IsDisturbedAt (from : ℕ) (steps : List Step) (v : View) : Type 0 where
  pub counted : IsCountedFrom from v.store.faults v.store.live
  pub stage : IsDisturbedSo from v
  pub restarts : list_any is_behind_crash (journal_of steps) ≡ true → Rose from v.store.faults
  pub sessions : AllByRecursion HasFineSession steps ⊎ Rose from v.store.faults
