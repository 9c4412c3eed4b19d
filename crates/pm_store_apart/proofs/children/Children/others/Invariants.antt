use Rattle.std.proofs.Common.{take}
use Rattle.pm_store_apart.specs.Children.{AreOthers}
use Rattle.pm_store_apart.proofs.children.Children.others.Given as goal

abbrev pub invariant-loop-at : goal.invariant-loop-at
invariant-loop-at l = AreOthers (take l.at l.initial.self-inside.pids.items) l.gone l.others.items
