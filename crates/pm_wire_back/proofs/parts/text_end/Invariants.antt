use Rattle.std.proofs.Common.{◌≡◌, ◌≤◌, ◌-◌, length, take, drop, Some}
use Rattle.pm_utf8.specs.Utf8.{boundary, run}
use Rattle.pm_wire_back.{specs.Parts.text_at, proofs.Walks.with_front}
use Rattle.pm_wire_back.proofs.parts.text_end.Given as goal

abbrev pub invariant-loop-i : goal.invariant-loop-i
invariant-loop-i l = (with_front (take l.i l.bytes) (text_at l.state (l.count - l.i) (drop l.i l.bytes)) ≡ text_at boundary l.count l.bytes) × (run boundary (take l.i l.bytes) ≡ Some l.state) × (l.i ≤ length l.bytes) × (l.state.more ≤ l.count - l.i)
