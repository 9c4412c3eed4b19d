use Rattle.std.proofs.Common.{[]}
use Rattle.pm_child_life.specs.Attention.{attention}
use Rattle.pm_aux.specs.Signals.{Listens}
use Rattle.pm_aux.proofs.tending.come_in.Given as goal

abbrev pub invariant-loop : goal.invariant-loop
invariant-loop g l = record {
  notes : g.W.Store.notes [] l.fn.work l.work;
  listens : Listens 0 (attention (g.W.Seat.told l.fn.work) (g.W.Seat.child l.fn.work) l.fn.standing) (attention (g.W.Seat.told l.work) (g.W.Seat.child l.work) l.standing);
}
