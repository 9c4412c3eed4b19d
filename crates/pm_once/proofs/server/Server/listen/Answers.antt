use Rattle.std.{proofs.Common.[], specs.Prelude.false}
use Rattle.pm_once.{specs.View.{View, view_of}, proofs.Serving.{idle_serves, nothing_served}}
use Rattle.pm_once_acts.proofs.StepsLaws.{serves_nothing}
use Rattle.pm_once.proofs.server.Server.listen.Goals as goal

pub returns-in_default : goal.returns-in_default
returns-in_default g c =
    let v : View = view_of c.args.self in
    let gives = g.C.Clock.gives c.args.clock.now in
    ([], [], false, idle_serves gives v c.requires.idle, nothing_served c.args.seed.now c.args.conf.now.authentication_ms gives [] (g.P.Port.visits c.args.port.now) serves_nothing)

pub returns-then-not-self : goal.returns-then-not-self
returns-then-not-self g c =
    let v : View = view_of c.args.self in
    let gives = g.C.Clock.gives c.args.clock.now in
    ([], [], false, idle_serves gives v c.requires.idle, nothing_served c.args.seed.now c.args.conf.now.authentication_ms gives [] (g.P.Port.visits c.args.port.now) serves_nothing)
