use Rattle.std.proofs.Common.{◌≡◌, ◌<◌, ◌-◌, ◌^◌}
use Rattle.pm_record.specs.Reading.{may_be, number_at}
use Rattle.pm_record.proofs.number.read_by_bytes.Given as goal

abbrev pub invariant-loop-i : goal.invariant-loop-i
invariant-loop-i l = (number_at (may_be l.ranges) (l.size - l.i) l.value l.rest ≡ number_at (may_be l.ranges) l.size 0 l.bytes) × (l.value < 256 ^ l.i)
