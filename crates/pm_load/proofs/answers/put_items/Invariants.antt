use Rattle.std.{proofs.Common.{◌≡◌, ◌++◌, take}, specs.List.flat_map}
use Rattle.pm_session_exchange.specs.Sent.{bytes_of, item_messages}
use Rattle.pm_load.proofs.answers.put_items.Given as goal

abbrev pub invariant-loop-item : goal.invariant-loop-item
invariant-loop-item l = l.out ≡ l.fn.out ++ bytes_of (flat_map item_messages (take l.item-index l.items))
