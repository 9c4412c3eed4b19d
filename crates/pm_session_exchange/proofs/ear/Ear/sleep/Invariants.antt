use Rattle.pm_child_life.specs.{Life.Cancel, Attention.{Hears, GivenNoMore}}
use Rattle.pm_session_exchange.proofs.ear.Ear.sleep.Given as goal

abbrev pub invariant-loop : goal.invariant-loop
invariant-loop g l = record {
  hears : Hears 0 l.fn.self.child l.self.child;
  uncancelled : GivenNoMore Cancel l.fn.self.child.told l.self.child.told;
  rests : g.W.Seat.rests l.fn.self.work l.self.work;
}
