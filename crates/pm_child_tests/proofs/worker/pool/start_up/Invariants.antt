use Rattle.std.{proofs.Common.◌≡◌, specs.Prelude.false}
use Rattle.pm_child_tests.specs.Crew.{IsFresh}
use Rattle.pm_child_tests.proofs.worker.pool.start_up.Given as goal

abbrev pub invariant-loop : goal.invariant-loop
invariant-loop g l = (goal.iterator-loop g).can_next l.iterator' × (goal.iterator-loop g).is_finite l.iterator' × IsFresh l.roster.knows 1 × (l.roster.knows.is_open ≡ false)
