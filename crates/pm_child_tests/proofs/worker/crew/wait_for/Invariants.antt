use Rattle.std.proofs.Common.{◌≡◌}
use Rattle.pm_child_tests.specs.Crew.{IsManned}
use Rattle.pm_child_tests.proofs.worker.crew.wait_for.Given as goal

abbrev pub invariant-loop : goal.invariant-loop
invariant-loop g l = (goal.iterator-loop g).can_next l.iterator' × (goal.iterator-loop g).is_finite l.iterator' × IsManned l.roster.knows × (l.roster.knows.notes.last_pid ≡ l.fn.roster.knows.notes.last_pid)
