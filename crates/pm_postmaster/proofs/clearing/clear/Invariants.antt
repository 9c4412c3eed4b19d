use Rattle.pm_postmaster.specs.Clearing.{Clears}
use Rattle.pm_postmaster.proofs.clearing.clear.Given as goal

abbrev pub invariant-looks : goal.invariant-looks
invariant-looks g l = Clears l.fn.roster.table l.fn.roster.knows (g.P.Port.visits l.fn.port) l.roster.table l.roster.knows (g.P.Port.visits l.port)
