use Rattle.std.proofs.{Common.refl, lemmas.Result.err_from_is_err_and}
use Rattle.pm_client.{specs.Sides.{link_view, sides, sink_view}, proofs.Talks.{asks_heard, asks_unsent}}
use Rattle.pm_client.proofs.hearing.ask.Goals as goal

pub returns-in_err-send : goal.returns-in_err-send
returns-in_err-send g c =
    let p = err_from_is_err_and c.from_residual.result c.from_residual.ensures.1 in
    rw (p.1, p.2) (asks_unsent _ c.args.request.now c.args.inbox.now _ _ c.in_err-send.ensures refl)

pub returns : goal.returns
returns g c =
    let mid = sides (link_view (g.L.Link.traffic c.send.new.link) (g.L.Link.faults c.send.new.link)) (sink_view (g.O.Sink.written c.args.out.now) (g.O.Sink.faults c.args.out.now)) in
    asks_heard _ c.hear.result c.args.request.now c.args.inbox.now c.hear.new.inbox _ mid _ c.in_ok-send.ensures refl c.hear.ensures
