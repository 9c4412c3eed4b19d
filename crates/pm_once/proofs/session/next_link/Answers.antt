use Rattle.std.{proofs.Common.{◌≡◌, ◌+◌, ◌∙◌, ap, subst, length, Option}, specs.{Prelude.IfSome, Option.option_map}}
use Rattle.pm_outside.specs.Visits.{Visits}
use Rattle.pm_once.{specs.Service.{with_end, with_link}, proofs.Links.one_is_out}
use Rattle.pm_once.proofs.session.next_link.Goals as goal

pub returns-in-Link-clause-out : goal.returns-in-Link-clause-out
returns-in-Link-clause-out g c = one_is_out _ _ _ (g.met.P.Port.balanced c.loop.port) (rw c.in-Link.is at c.accept.ensures.visits)

pub returns-in-Link-clause-given : goal.returns-in-Link-clause-given
returns-in-Link-clause-given g c =
    (rw c.in-Link.is at c.accept.ensures.visits) ∙ ap (option_map (with_link (g.P.Link.Link.faults c.in-Link.link))) c.loop.invariant

pub returns-in-Link-clause-number : goal.returns-in-Link-clause-number
returns-in-Link-clause-number g c =
    subst (λ (visits : Option Visits). IfSome visits (λ v. g.P.Link.Link.number c.in-Link.link ≡ length v.given + 1)) c.loop.invariant (rw c.in-Link.is at c.accept.ensures.number)

pub returns-in-Link-clause-fresh : goal.returns-in-Link-clause-fresh
returns-in-Link-clause-fresh g c = rw c.in-Link.is at c.accept.ensures.fresh

pub returns-in-End-clause-ended : goal.returns-in-End-clause-ended
returns-in-End-clause-ended g c = (rw c.in-End.is at c.accept.ensures.visits) ∙ ap (option_map with_end) c.loop.invariant
