use Rattle.std.proofs.Common.{◌≡◌, ◌<◌, ◌^◌, take}
use Rattle.pm_record.proofs.Numbers.{horner}
use Rattle.pm_record.proofs.number.number_in_front.Given as goal

abbrev pub invariant-loop-byte : goal.invariant-loop-byte
invariant-loop-byte l = (l.value ≡ horner 0 (take l.byte-index l.front)) × (l.value < 256 ^ l.byte-index)
