use Rattle.pm_board_acts.specs.{pm_supervisor_journal.Due.IsIdle, Sitting.AreReaped}
use Rattle.pm_postmaster.specs.{Serving.Keeps, View.view_of}
use Rattle.pm_postmaster.proofs.server.Server.look_all.Given as goal

abbrev pub invariant-loop-slot : goal.invariant-loop-slot
invariant-loop-slot g l = record {
  keeps : Keeps g.C.Clock.gives (view_of l.initial.self) (view_of l.self);
  idle : IsIdle (view_of l.self).work.standing;
  reaped : AreReaped l.slot (view_of l.self).board;
}
