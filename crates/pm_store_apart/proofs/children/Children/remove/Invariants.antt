use Rattle.std.proofs.Common.{◌≡◌, take}
use Rattle.pm_store_apart.specs.Children.{times_in}
use Rattle.pm_store_apart.proofs.children.Children.remove.Given as goal

abbrev pub invariant-loop-at : goal.invariant-loop-at
invariant-loop-at l = (l.self-inside.pids.items ≡ l.initial.self-inside.pids.items) × (times_in l.pid (take l.at l.self-inside.pids.items) ≡ 0)
