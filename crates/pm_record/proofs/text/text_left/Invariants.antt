use Rattle.std.proofs.Common.{◌≡◌, ◌-◌}
use Rattle.pm_utf8.specs.Utf8.{boundary}
use Rattle.pm_record.specs.Reading.{left_of, text_at}
use Rattle.pm_record.proofs.text.text_left.Given as goal

abbrev pub invariant-loop-i : goal.invariant-loop-i
invariant-loop-i l = left_of (text_at (l.count - l.i) l.state l.rest) ≡ left_of (text_at l.count boundary l.bytes)
