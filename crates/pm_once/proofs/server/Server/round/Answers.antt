use Rattle.std.{proofs.Common.{◌++◌, [], Err, sym, ◌∙◌}, specs.Prelude.false}
use Rattle.pm_supervisor_journal.specs.Due.{IsIdle}
use Rattle.pm_once.{specs.View.{View, view_of}, proofs.{Alls.running_on, Turns.{turn_asks, turn_finishes, turn_served, turn_serves}, Serving.{finishes_serves, nothing_served}}}
use Rattle.pm_once.proofs.server.Server.round.Goals as goal

pub ask_smart-asked-requires-clause-running : goal.ask_smart-asked-requires-clause-running
ask_smart-asked-requires-clause-running g c = running_on (λ at. ⊥) c.in-Ok.ensures.0 _ _ c.requires.running c.in-Ok.ensures.1.does.goes c.in-Ok.ensures.1.does.stays

pub go_on-requires-clause-running : goal.go_on-requires-clause-running
go_on-requires-clause-running g c = running_on (λ at. ⊥) c.in-Ok.ensures.0 _ _ c.requires.running c.in-Ok.ensures.1.does.goes c.in-Ok.ensures.1.does.stays

pub go_on-requires-clause-idle : goal.go_on-requires-clause-idle
go_on-requires-clause-idle g c = record { rests = c.in-Ok.ensures.1.rests; unowed = sym c.owes_smart.ensures ∙ c.if-owes_smart.false }

pub returns-in-Err : goal.returns-in-Err
returns-in-Err g c =
    let v : View = view_of c.args.self in
    let gives = g.C.Clock.gives c.args.clock.now in
    let one = c.in-Err.ensures in
    (one.0, [], false, finishes_serves gives (Err c.in-Err.end) one.0 v _ (turn_finishes gives (Err c.in-Err.end) one.0 v _ one.1 tt), nothing_served c.args.seed.now c.args.conf.now.authentication_ms gives one.0 (g.P.Port.visits c.args.port.now) one.1.does.serves)

pub returns-then-owes_smart : goal.returns-then-owes_smart
returns-then-owes_smart g c =
    let v : View = view_of c.args.self in
    let gives = g.C.Clock.gives c.args.clock.now in
    let mid : View = view_of c.turn.new.self in
    let one = c.in-Ok.ensures in
    let asks = c.ask_smart-asked.ensures.asks in
    let running = running_on (λ at. ⊥) one.0 v mid c.requires.running one.1.does.goes one.1.does.stays in
    let all = turn_asks gives c.ask_smart-asked.result one.0 asks.0 v mid _ one.1 running (sym c.owes_smart.ensures ∙ c.if-owes_smart.true) asks.1 in
    (one.0 ++ asks.0, [], false, finishes_serves gives c.ask_smart-asked.result (one.0 ++ asks.0) v _ all, nothing_served c.args.seed.now c.args.conf.now.authentication_ms gives (one.0 ++ asks.0) (g.P.Port.visits c.args.port.now) all.does.serves)

pub returns : goal.returns
returns g c =
    let v : View = view_of c.args.self in
    let gives = g.C.Clock.gives c.args.clock.now in
    let mid : View = view_of c.turn.new.self in
    let one = c.in-Ok.ensures in
    let two = c.go_on.ensures in
    let idle : IsIdle mid.work.standing = record { rests = one.1.rests; unowed = sym c.owes_smart.ensures ∙ c.if-owes_smart.false } in (
      one.0 ++ two.0,
      two.1,
      two.2,
      turn_serves gives c.go_on.result.1 two.1 two.2 one.0 two.0 v mid _ one.1 idle two.3,
      turn_served c.args.seed.now c.args.conf.now.authentication_ms gives two.1 two.2 one.0 two.0 v mid _ _ one.1 two.4,
    )
