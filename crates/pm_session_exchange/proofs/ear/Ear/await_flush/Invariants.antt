use Rattle.std.proofs.Common.{◌≡◌, []}
use Rattle.pm_query.specs.Calls.{HasReached, user_of}
use Rattle.pm_child_life.specs.Attention.{Hears}
use Rattle.pm_session_exchange.proofs.ear.Ear.await_flush.Given as goal

abbrev pub invariant-loop : goal.invariant-loop
invariant-loop g l = record {
  notes : g.W.Store.notes [] l.initial.self.work l.self.work;
  admits : g.W.Store.admits l.self.work l.pass;
  user : user_of (g.W.Store.stamp l.self.work) (g.W.Store.view l.pass) ≡ user_of (g.W.Store.stamp l.initial.self.work) (g.W.Store.view l.initial.pass);
  reached : HasReached (g.W.Store.view l.pass) l.front;
  hears : Hears 0 l.initial.self.child l.self.child;
}
