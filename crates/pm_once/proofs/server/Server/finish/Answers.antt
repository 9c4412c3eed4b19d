use Rattle.std.proofs.Common.{◌++◌, sym, ◌∙◌}
use Rattle.pm_once.proofs.{Alls.running_on, Finishing.{finishes_asked, finishes_err, finishes_ok}}
use Rattle.pm_once.proofs.server.Server.finish.Goals as goal

pub ask_smart-requires-clause-running : goal.ask_smart-requires-clause-running
ask_smart-requires-clause-running g c = running_on _ c.in-Ok.ensures.does.0 _ _ c.requires.running c.in-Ok.ensures.does.1.does.goes c.in-Ok.ensures.does.1.does.stays

pub returns-in-Err : goal.returns-in-Err
returns-in-Err g c = (c.in-Err.ensures.does.0, finishes_err _ c.in-Err.end c.in-Err.ensures.does.0 _ _ c.in-Err.ensures.does.1)

pub returns-then-owes_smart : goal.returns-then-owes_smart
returns-then-owes_smart g c =
    let acts = c.in-Ok.ensures.does in
    let asks = c.ask_smart.ensures.asks in
    let running = running_on _ acts.0 _ _ c.requires.running acts.1.does.goes acts.1.does.stays in
    (acts.0 ++ asks.0, finishes_asked _ c.ask_smart.result acts.0 asks.0 _ _ _ acts.1 running (sym c.owes_smart.ensures ∙ c.if-owes_smart.true) asks.1)

pub returns : goal.returns
returns g c =
    let acts = c.in-Ok.ensures.does in
    (acts.0, finishes_ok _ acts.0 _ _ c.requires.goes_on acts.1 (sym c.owes_smart.ensures ∙ c.if-owes_smart.false))
