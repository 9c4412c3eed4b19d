use Rattle.std.proofs.Common.{◌≡◌, ◌≤◌, ◌-◌, take, drop, Some}
use Rattle.pm_utf8.specs.Utf8.{boundary, run}
use Rattle.pm_wire_back.{specs.Parts.string_at, proofs.Walks.with_front}
use Rattle.pm_wire_back.proofs.parts.string_end.Given as goal

abbrev pub invariant-loop-i : goal.invariant-loop-i
invariant-loop-i l = (with_front (take l.i l.bytes) (string_at l.ending l.state (l.room - l.i) (drop l.i l.bytes)) ≡ string_at l.ending boundary l.room l.bytes) × (run boundary (take l.i l.bytes) ≡ Some l.state) × (l.i ≤ l.room)
