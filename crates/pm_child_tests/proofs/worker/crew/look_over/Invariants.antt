use Rattle.std.proofs.Common.{◌≡◌}
use Rattle.pm_child_tests.specs.Crew.{IsLookedOver}
use Rattle.pm_child_tests.proofs.worker.crew.look_over.Given as goal

abbrev pub invariant-loop-slot : goal.invariant-loop-slot
invariant-loop-slot l = IsLookedOver l.roster.knows l.slot × (l.roster.knows.notes.last_pid ≡ l.fn.roster.knows.notes.last_pid)
