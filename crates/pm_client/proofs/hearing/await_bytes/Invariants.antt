use Rattle.std.proofs.Common.{◌-◌, length}
use Rattle.pm_client.{specs.Sides.link_view, proofs.Reading.Came}
use Rattle.pm_client.proofs.hearing.await_bytes.Given as goal

abbrev pub invariant-loop-link : goal.invariant-loop-link
invariant-loop-link g l = record {
  came : Came l.initial.inbox l.inbox (link_view (g.L.Link.traffic l.initial.link) (g.L.Link.faults l.initial.link)) (link_view (g.L.Link.traffic l.link) (g.L.Link.faults l.link));
}

abbrev pub decreases-loop-link : goal.decreases-loop-link
decreases-loop-link g l = l.wanted - length l.inbox
