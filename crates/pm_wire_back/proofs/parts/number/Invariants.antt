use Rattle.std.proofs.Common.{◌≡◌, ◌≤◌, ◌<◌, ◌-◌, ◌*◌, ◌^◌, false, length, drop}
use Rattle.pm_wire_back.specs.Parts.{number_at}
use Rattle.pm_wire_back.proofs.parts.number.Given as goal

abbrev pub invariant-loop-i : goal.invariant-loop-i
invariant-loop-i l =
    (number_at l.zeros l.limit l.value (l.count - l.i) (drop l.i l.bytes) ≡ number_at l.zeros l.limit 0 l.count l.bytes) × (l.i ≤ length l.bytes) × (l.value * 10 ^ (l.count - l.i) ≤ l.limit)
    × (l.zeros ≡ false → 0 < l.i → 0 < l.value)
