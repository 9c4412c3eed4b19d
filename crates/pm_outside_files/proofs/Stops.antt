-- A disk that claims nothing of a stop: whatever one leaves now, it could leave before.
use Rattle.std.{specs.Prelude.{ℕ, ⊤}, proofs.Common.{refl, arith}}
use Rattle.pm_disk.specs.{declared.disk.Which.Which, Disk.{Follows, Torn}}

pub anything_follows : (file : Which) (at count : ℕ) → Follows (Torn file at count) (λ _. ⊤) (λ _. ⊤)
anything_follows file at count = λ image any.
    (image, tt, record { no_shorter = omega arith; outside = λ i within beyond. refl; beside = refl })
