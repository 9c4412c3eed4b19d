use Rattle.std.proofs.Common.{◌≡◌, take}
use Rattle.pm_store_apart.proofs.flush.copied.Given as goal

-- the commits so far are copied
abbrev pub invariant-loop-commit : goal.invariant-loop-commit
invariant-loop-commit l = l.copy.items ≡ take l.commit-index l.batch
