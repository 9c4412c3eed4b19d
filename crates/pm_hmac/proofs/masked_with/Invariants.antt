use Rattle.std.proofs.Common.{◌≡◌, length, take}
use Rattle.pm_hmac.specs.Hmac.{masked}
use Rattle.pm_hmac.proofs.masked_with.Given as goal

abbrev pub invariant-loop-i : goal.invariant-loop-i
invariant-loop-i l = record { whole : length l.out ≡ 64; front : take l.i l.out ≡ masked l.mask (take l.i l.block) }
