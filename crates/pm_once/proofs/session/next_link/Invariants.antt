use Rattle.std.proofs.Common.{◌≡◌}
use Rattle.pm_once.proofs.session.next_link.Given as goal

abbrev pub invariant-loop : goal.invariant-loop
invariant-loop g l = g.P.Port.visits l.port ≡ g.P.Port.visits l.initial.port
