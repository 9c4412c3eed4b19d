use Rattle.std.{proofs.Common.{[], sym, subst}, specs.Prelude.false}
use Rattle.pm_supervisor_journal.specs.{Supervision.standing, Stands.IsSettled, Due.IsIdle}
use Rattle.pm_once.{specs.{Goes.IsRunning, Serves.Serves, View.{View, view_of}}, proofs.Serving.{finishes_serves, nothing_served}}
use Rattle.pm_once.proofs.server.Server.go_on.Goals as goal

pub listen-requires : goal.listen-requires
listen-requires g c =
    let e = sym c.in-None.ensures.none in
    record {
      running = subst (λ s. IsRunning (view_of s)) e c.requires.running;
      idle = subst (λ s. IsIdle (standing s.supervision)) e c.requires.idle;
      settled = subst (λ s. IsSettled (standing s.supervision)) e c.requires.settled;
    }

pub returns-in-Some : goal.returns-in-Some
returns-in-Some g c =
    let v : View = view_of c.args.self in
    let gives = g.C.Clock.gives c.args.clock.now in
    let one = c.in-Some.ensures.runs in
    (one.0, [], false, finishes_serves gives c.in-Some.end one.0 v _ one.1, nothing_served c.args.seed.now c.args.conf.now.authentication_ms gives one.0 (g.P.Port.visits c.args.port.now) one.1.does.serves)

pub returns-in-None : goal.returns-in-None
returns-in-None g c =
    let v : View = view_of c.args.self in
    let gives = g.C.Clock.gives c.args.clock.now in
    let two = c.listen.ensures in
    let now : View = view_of c.listen.result.0 in
    (two.0, two.1, two.2, subst (λ s. Serves gives c.listen.result.1 two.1 two.2 two.0 (view_of s) now) c.in-None.ensures.none two.3, two.4)
