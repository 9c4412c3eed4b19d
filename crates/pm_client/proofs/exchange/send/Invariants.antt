use Rattle.std.proofs.Common.{◌+◌, length}
use Rattle.pm_client.{specs.Sides.link_view, proofs.Links.SentBut}
use Rattle.pm_client.proofs.exchange.send.Given as goal

abbrev pub invariant-loop-rest : goal.invariant-loop-rest
invariant-loop-rest g l = record {
  sent : SentBut l.rest l.bytes (link_view (g.L.Link.traffic l.initial.link) (g.L.Link.faults l.initial.link)) (link_view (g.L.Link.traffic l.link) (g.L.Link.faults l.link));
}

abbrev pub decreases-loop-rest : goal.decreases-loop-rest
decreases-loop-rest g l = length l.rest + g.L.Link.patience l.link
