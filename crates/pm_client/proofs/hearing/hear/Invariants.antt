use Rattle.pm_client.specs.{Sides.{link_view, sides, sink_view}, Hearing.Hearing}
use Rattle.pm_client.proofs.hearing.hear.Given as goal

abbrev pub invariant-loop : goal.invariant-loop
invariant-loop g l = record {
  hearing : Hearing l.page.items l.initial.inbox l.inbox
      (sides (link_view (g.L.Link.traffic l.initial.link) (g.L.Link.faults l.initial.link)) (sink_view (g.O.Sink.written l.initial.out) (g.O.Sink.faults l.initial.out)))
      (sides (link_view (g.L.Link.traffic l.link) (g.L.Link.faults l.link)) (sink_view (g.O.Sink.written l.out) (g.O.Sink.faults l.out)));
}
