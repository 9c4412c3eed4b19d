use Rattle.pm_supervisor_journal.specs.Due.{IsIdle}
use Rattle.pm_postmaster.specs.{Serving.Keeps, View.view_of}
use Rattle.pm_postmaster.proofs.server.Server.run.Given as goal

abbrev pub invariant-turns : goal.invariant-turns
invariant-turns g l = record {
  keeps : Keeps g.C.Clock.gives (view_of l.initial.self) (view_of l.self);
  idle : IsIdle (view_of l.self).work.standing;
}
