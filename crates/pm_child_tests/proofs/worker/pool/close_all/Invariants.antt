use Rattle.std.proofs.Common.{◌+◌, ◌<◌}
use Rattle.pm_child_tests.specs.Crew.{IsManned}
use Rattle.pm_child_tests.proofs.worker.pool.close_all.Given as goal

abbrev pub invariant-loop-slot : goal.invariant-loop-slot
invariant-loop-slot g l = IsManned l.roster.knows × (l.roster.knows.notes.last_pid < l.slot + 300)
