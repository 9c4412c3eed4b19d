use Rattle.std.{proofs.Common.{◌≡◌, ℕ}, specs.Prelude.{false, true}}
use Rattle.pm_board_acts.specs.{pm_supervisor_journal.Stands.IsSettled, Sitting.AreReaped}
use Rattle.pm_postmaster.specs.{Serving.Keeps, View.view_of}
use Rattle.pm_postmaster.proofs.server.Server.settle.Given as goal

abbrev pub invariant-acts : goal.invariant-acts
invariant-acts g l = record {
  keeps : Keeps g.C.Clock.gives (view_of l.initial.self) (view_of l.self);
  goes_on : (view_of l.self).work.standing.ended ≡ false;
  settled : IsSettled (view_of l.initial.self).work.standing → l.self.listens ≡ true → IsSettled (view_of l.self).work.standing;
  reaped : (n : ℕ) → AreReaped n (view_of l.initial.self).board → AreReaped n (view_of l.self).board;
}
