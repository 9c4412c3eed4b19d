use Rattle.std.proofs.Common.{length}
use Rattle.pm_client.{specs.Sides.sink_view, proofs.Links.ShownBut}
use Rattle.pm_client.proofs.exchange.show.Given as goal

abbrev pub invariant-loop-rest : goal.invariant-loop-rest
invariant-loop-rest g l = record {
  shown : ShownBut l.rest l.text (sink_view (g.O.Sink.written l.initial.sink) (g.O.Sink.faults l.initial.sink)) (sink_view (g.O.Sink.written l.sink) (g.O.Sink.faults l.sink));
}

abbrev pub decreases-loop-rest : goal.decreases-loop-rest
decreases-loop-rest g l = length l.rest
