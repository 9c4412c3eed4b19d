use Rattle.std.{proofs.Common.{◌∙◌, List, ◌++◌, ap}, specs.List.flat_map}
use Rattle.pm_query.specs.{pm_rows.Standing.Standing, declared.item.Item.Item}
use Rattle.pm_session_exchange.specs.Sent.{bytes_of, item_messages}
use Rattle.pm_load.proofs.Replays.{goes_on, ran, stays}
use Rattle.pm_load.proofs.replay.Replay.run.Goals as goal

pub returns-then-is_empty : goal.returns-then-is_empty
returns-then-is_empty c =
    let before : Standing = record { rows = c.self.inside.rows; count = c.self.inside.commits } in
    rw (← c.self.view_is) (ran c.args.text.now before before c.in-Ok.script c.in_ok-outcome.outcome.reply c.in_ok-outcome.outcome.commit c.self.inside.sent c.put_items.new.out c.say.new.out c.in-Ok.ensures.script c.in_ok-outcome.ensures.reply
    c.in_ok-outcome.ensures.commit (c.in_ok-put_items.ensures ∙ ap (λ (items : List Item). c.self.inside.sent ++ bytes_of (flat_map item_messages items)) c.items.ensures) c.in_ok-say.ensures
    (stays before c.in_ok-outcome.outcome.commit c.changes.result.now c.is_empty.result c.if-is_empty.true c.is_empty.ensures c.changes.ensures.list))

pub returns : goal.returns
returns c =
    let before : Standing = record { rows = c.self.inside.rows; count = c.self.inside.commits } in
    let now : Standing = record { rows = c.apply.new.self; count = c.in-Some.commits } in
    rw (← c.self.view_is) (ran c.args.text.now before now c.in-Ok.script c.in_ok-outcome.outcome.reply c.in_ok-outcome.outcome.commit c.self.inside.sent c.put_items.new.out c.say.new.out c.in-Ok.ensures.script c.in_ok-outcome.ensures.reply
    c.in_ok-outcome.ensures.commit (c.in_ok-put_items.ensures ∙ ap (λ (items : List Item). c.self.inside.sent ++ bytes_of (flat_map item_messages items)) c.items.ensures) c.in_ok-say.ensures
    (goes_on before now c.in_ok-outcome.outcome.commit c.changes.result.now c.is_empty.result c.if-is_empty.false c.is_empty.ensures c.changes.ensures.list c.in_ok-apply.ensures.ok c.in-Some.ensures.1))
