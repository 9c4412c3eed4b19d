use Rattle.std.proofs.Common.{◌≡◌, ◌+◌}
use Rattle.pm_child_tests.specs.Crew.{IsManned}
use Rattle.pm_child_tests.proofs.worker.pool.serve_all.Given as goal

abbrev pub invariant-loop-number : goal.invariant-loop-number
invariant-loop-number g l = IsManned l.roster.knows × (l.roster.knows.notes.last_pid ≡ l.number + 3)
