use Rattle.std.{proofs.Common.{◌++◌, [], Ok, Err}, specs.Prelude.false}
use Rattle.pm_once.{specs.View.{View, view_of}, proofs.{Alls.running_on, Serving.{idle_serves, nothing_served, served_on, serves_on}}}
use Rattle.pm_once_acts.proofs.StepsLaws.{serves_nothing}
use Rattle.pm_once.proofs.server.Server.run.Goals as goal

pub rounds-init : goal.rounds-init
rounds-init g c =
    let v : View = view_of c.args.self in
    let gives = g.C.Clock.gives c.args.clock.now in
    record { steps = []; connections = []; ended = false; serves = idle_serves gives v c.requires.idle; served = nothing_served c.args.seed.now c.args.conf.now.authentication_ms gives [] (g.P.Port.visits c.args.port.now) serves_nothing }

pub round-next-requires : goal.round-next-requires
round-next-requires g c =
    let i = c.rounds.invariant in
    record { running = running_on (g.C.Clock.gives c.args.clock.now) i.steps _ _ c.requires.running i.serves.goes i.serves.stays; idle = i.serves.idle }

pub rounds-preserved : goal.rounds-preserved
rounds-preserved g c =
    let v : View = view_of c.args.self in
    let gives = g.C.Clock.gives c.args.clock.now in
    let i = c.rounds.invariant in
    let two = rw c.in-Ok.is at c.round-next.ensures in
    record {
      steps = i.steps ++ two.0;
      connections = i.connections ++ two.1;
      ended = _;
      serves = serves_on gives (Ok tt) i.connections two.1 i.ended two.2 i.steps two.0 v _ _ i.serves two.3;
      served = served_on c.args.seed.now c.args.conf.now.authentication_ms gives i.connections two.1 i.ended two.2 i.steps two.0 _ _ _ (λ is. ((two.3.deaf (i.serves.at_end is)).1, (two.3.deaf (i.serves.at_end is)).2)) i.served two.4;
    }

pub returns-in-Err : goal.returns-in-Err
returns-in-Err g c =
    let v : View = view_of c.args.self in
    let gives = g.C.Clock.gives c.args.clock.now in
    let i = c.rounds.invariant in
    let two = rw c.in-Err.is at c.round-next.ensures in (
      i.steps ++ two.0,
      i.connections ++ two.1,
      _,
      serves_on gives (Err c.in-Err.end) i.connections two.1 i.ended two.2 i.steps two.0 v _ _ i.serves two.3,
      served_on c.args.seed.now c.args.conf.now.authentication_ms gives i.connections two.1 i.ended two.2 i.steps two.0 _ _ _ (λ is. ((two.3.deaf (i.serves.at_end is)).1, (two.3.deaf (i.serves.at_end is)).2)) i.served two.4,
    )
