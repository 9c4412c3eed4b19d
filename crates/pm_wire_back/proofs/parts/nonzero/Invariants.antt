use Rattle.std.proofs.Common.{◌≡◌, ◌≤◌, ◌-◌, length, take, drop}
use Rattle.pm_wire_back.{specs.Parts.code_at, proofs.Walks.with_front}
use Rattle.pm_wire_back.proofs.parts.nonzero.Given as goal

abbrev pub invariant-loop-i : goal.invariant-loop-i
invariant-loop-i l = (with_front (take l.i l.bytes) (code_at (l.count - l.i) (drop l.i l.bytes)) ≡ code_at l.count l.bytes) × (l.i ≤ length l.bytes)
