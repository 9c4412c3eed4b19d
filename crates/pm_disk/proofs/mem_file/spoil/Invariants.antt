use Rattle.std.proofs.Common.{◌≡◌, take}
use Rattle.pm_disk.specs.Stop.{spoiled}
use Rattle.pm_disk.proofs.mem_file.spoil.Given as goal

abbrev pub invariant-loop-span : goal.invariant-loop-span
invariant-loop-span l = l.bytes.items ≡ spoiled l.fill l.initial.bytes.items (take l.span-index l.written)
