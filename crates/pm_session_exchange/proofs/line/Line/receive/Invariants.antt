use Rattle.std.proofs.Common.{false}
use Rattle.pm_child_life.specs.Attention.{Hears}
use Rattle.pm_session_exchange.specs.Exchange.{IsSound, ReceivesNothing}
use Rattle.pm_session_exchange.proofs.line.Line.receive.Given as goal

abbrev pub invariant-loop : goal.invariant-loop
invariant-loop g l = record {
  came : ReceivesNothing l.fn.inbox l.inbox l.fn.self.link l.self.link;
  sound : IsSound false l.fn.self.link.traffic → IsSound false l.self.link.traffic;
  hears : Hears 0 l.fn.self.child l.self.child;
  rests : g.W.Seat.rests l.fn.self.work l.self.work;
}
