use Rattle.pm_supervisor_journal.specs.{Stands.{HasPast, IsSettled}, Supervision.{at_work, standing}}
use Rattle.pm_supervisor_tests.proofs.server.act_all.Given as goal

abbrev pub invariant-loop : goal.invariant-loop
invariant-loop l = HasPast (at_work l.server) × (IsSettled (standing l.initial.server) → IsSettled (standing l.server))
