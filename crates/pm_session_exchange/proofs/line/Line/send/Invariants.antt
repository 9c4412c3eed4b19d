use Rattle.std.proofs.Common.{◌+◌, Bool, length}
use Rattle.pm_child_life.specs.Attention.{Hears}
use Rattle.pm_session_exchange.specs.Exchange.{link_view, IsSound, SentAllBut}
use Rattle.pm_session_exchange.proofs.line.Line.send.Given as goal

abbrev pub invariant-loop-rest : goal.invariant-loop-rest
invariant-loop-rest g l = record {
  sent : SentAllBut l.rest l.bytes l.fn.self.link (link_view (g.L.Link.traffic l.self-inside.link) (g.L.Link.number l.self-inside.link) (g.L.Link.faults l.self-inside.link));
  hears : Hears 0 l.fn.self.child l.self-inside.ear.child;
  rests : g.W.Seat.rests l.fn.self.work l.self-inside.ear.work;
  sound : (ended : Bool) → IsSound ended l.fn.self.link.traffic → IsSound ended (g.L.Link.traffic l.self-inside.link);
}

abbrev pub decreases-loop-rest : goal.decreases-loop-rest
decreases-loop-rest g l = length l.rest + g.L.Link.patience l.self-inside.link
