-- What a disk that fails some of its calls tells, and which calls these are.
use Rattle.std.specs.Prelude.{◌≡◌, ◌⊎◌, ◌↔◌, ℕ, ◌+◌, ◌-◌, ◌^◌, ◌<◌}
use Rattle.pm_disk.specs.{Files.Files, Cause.Rose, Disk.{Elapses, StopsNoWider}, Skipped.{added, inner_tick}, declared.failing_disk.FailingDisk.FailingDisk}

-- the disk within
abbrev pub inner_of : {D : Type 0} {g : _} → FailingDisk D g → D
inner_of failing = failing.disk

-- how many calls it passes on before the first that fails
abbrev pub passes_left : {D : Type 0} {g : _} → FailingDisk D g → ℕ
passes_left failing = failing.passes

-- how many calls after these fail. Then it passes on all again.
abbrev pub fails_left : {D : Type 0} {g : _} → FailingDisk D g → ℕ
fails_left failing = failing.fails

-- each failed call is a tick that the disk within hasn't had
abbrev pub failing_ticks : {D : Type 0} {g : _} → FailingDisk D g → ℕ
failing_ticks {g = g} failing = g.ticks failing.disk + failing.skipped

abbrev pub failing_images : {D : Type 0} {g : _} → FailingDisk D g → ℕ → Files → Type 0
failing_images {g = g} failing tick = g.images failing.disk (inner_tick failing.first failing.skipped tick)

abbrev pub failing_faults : {D : Type 0} {g : _} → FailingDisk D g → ℕ
failing_faults {g = g} failing = added (g.faults failing.disk) failing.own

-- no call has come to it: it tells what the disk within does
pub record Wraps {D : Type 0} {g : _} (disk : D) (failing : FailingDisk D g) : Type 0 where
  pub inner : inner_of failing ≡ disk
  pub ticks : failing_ticks failing ≡ g.ticks disk
  pub images : (tick : ℕ) (image : Files) → failing_images failing tick image ↔ g.images disk tick image
  pub faults : failing_faults failing ≡ g.faults disk

-- the next call fails by itself: none is left to pass on and some are left to fail, or the last tick has come
abbrev pub IsDue : {D : Type 0} {g : _} → FailingDisk D g → Type 0
IsDue failing = ((passes_left failing ≡ 0) × (0 < fails_left failing)) ⊎ (failing_ticks failing ≡ 2 ^ 64 - 1)

-- a call goes by that changes no file, and widens nothing
pub record ChangesNoFile {D : Type 0} {g : _} (old new : FailingDisk D g) : Type 0 where
  pub seen : g.seen new.disk ≡ g.seen old.disk
  pub images : StopsNoWider (failing_images old (failing_ticks old)) (failing_images new (failing_ticks new))
  pub time : Elapses (failing_ticks old) (failing_ticks new) (failing_images old) (failing_images new)

-- Exactly the call that is due fails by itself, and it doesn't reach the disk within.
pub record FailsWhenDue {D : Type 0} {g : _} (old new : FailingDisk D g) (failed : Type 0) : Type 0 where
  pub passes : passes_left new ≡ passes_left old - 1
  pub passing : 0 < passes_left old → fails_left new ≡ fails_left old
  pub failing : passes_left old ≡ 0 → fails_left new ≡ fails_left old - 1
  pub alone : IsDue old → failed × (inner_of new ≡ inner_of old)
  pub within : failed → IsDue old ⊎ Rose (g.faults (inner_of old)) (g.faults (inner_of new))
