use Rattle.std.proofs.Common.{◌≡◌, List, All}
use Rattle.pm_child_life.specs.Attention.{attention}
use Rattle.pm_query.specs.declared.book.BookEntry.{BookEntry}
use Rattle.pm_aux.specs.{Signals.Listens, Work.IsPassing}
use Rattle.pm_aux.proofs.checkpoints.checkpoint_on.Given as goal

abbrev pub invariant-loop : goal.invariant-loop
invariant-loop g l = record {
  notes : (passing : List BookEntry) × g.W.Store.notes passing l.fn.work l.work × All (IsPassing (g.W.Store.view l.fn.pass).pid) passing;
  admits : g.W.Store.admits l.work l.pass;
  view : g.W.Store.view l.pass ≡ g.W.Store.view l.fn.pass;
  listens : Listens 0 (attention (g.W.Seat.told l.fn.work) (g.W.Seat.child l.fn.work) l.fn.standing) (attention (g.W.Seat.told l.work) (g.W.Seat.child l.work) l.standing);
}
