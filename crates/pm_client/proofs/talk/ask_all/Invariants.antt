use Rattle.std.{proofs.Common.{◌+◌, ◌++◌, take}, specs.List.flat_map}
use Rattle.pm_wire_front.specs.Requests.{query, start_packet}
use Rattle.pm_client.{specs.Sides.{link_view, sides, sink_view}, proofs.Talks.Talked}
use Rattle.pm_client.proofs.talk.ask_all.Given as goal

abbrev pub invariant-loop-text : goal.invariant-loop-text
invariant-loop-text g l = record {
  talked : Talked (start_packet l.user ++ flat_map query (take l.text-index l.texts)) (l.text-index + 1) l.inbox
      (sides (link_view (g.L.Link.traffic l.fn.link) (g.L.Link.faults l.fn.link)) (sink_view (g.O.Sink.written l.fn.out) (g.O.Sink.faults l.fn.out)))
      (sides (link_view (g.L.Link.traffic l.link) (g.L.Link.faults l.link)) (sink_view (g.O.Sink.written l.out) (g.O.Sink.faults l.out)));
}
