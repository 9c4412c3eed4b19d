use Rattle.std.proofs.Common.{◌≡◌, ◌≤◌, length, drop}
use Rattle.pm_wire_back.specs.Parts.{literal_at}
use Rattle.pm_wire_back.proofs.parts.literal.Given as goal

abbrev pub invariant-loop-i : goal.invariant-loop-i
invariant-loop-i l = (literal_at (drop l.i l.word) (drop l.i l.bytes) ≡ literal_at l.word l.bytes) × (l.i ≤ length l.bytes)
