use Rattle.std.proofs.Common.{◌≡◌, false, ◌++◌, ◌-◌, ℕ, List, [], length}
use Rattle.pm_child_life.specs.Attention.{Hears}
use Rattle.pm_session_exchange.specs.Exchange.{IsSound, Passes}
use Rattle.pm_session_exchange.proofs.line.Line.await_bytes.Given as goal

abbrev pub invariant-loop-self : goal.invariant-loop-self
invariant-loop-self g l = record {
  came : (came : List ℕ) × (l.inbox ≡ l.initial.inbox ++ came) × Passes came [] l.initial.self.link l.self.link;
  sound : IsSound false l.initial.self.link.traffic → IsSound false l.self.link.traffic;
  hears : Hears 0 l.initial.self.child l.self.child;
  rests : g.W.Seat.rests l.initial.self.work l.self.work;
}

abbrev pub decreases-loop-self : goal.decreases-loop-self
decreases-loop-self g l = l.wanted - length l.inbox
