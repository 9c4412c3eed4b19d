use Rattle.std.proofs.Common.{◌≡◌, []}
use Rattle.pm_client.specs.Sides.{Carries, link_view}
use Rattle.pm_client.proofs.hearing.receive.Given as goal

abbrev pub invariant-loop : goal.invariant-loop
invariant-loop g l = record {
  unread : l.inbox ≡ l.initial.inbox;
  carries : Carries [] [] (link_view (g.L.Link.traffic l.initial.link) (g.L.Link.faults l.initial.link)) (link_view (g.L.Link.traffic l.link) (g.L.Link.faults l.link));
}
