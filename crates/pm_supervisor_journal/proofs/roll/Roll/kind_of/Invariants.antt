use Rattle.std.proofs.Common.{◌≡◌, drop}
use Rattle.pm_supervisor_journal.specs.Roll.{kind_in}
use Rattle.pm_supervisor_journal.proofs.roll.Roll.kind_of.Given as goal

abbrev pub invariant-loop-child : goal.invariant-loop-child
invariant-loop-child l = kind_in l.pid l.self.children.items ≡ kind_in l.pid (drop l.child-index l.child-items)
