use Rattle.std.proofs.Common.{◌≡◌, take}
use Rattle.pm_query.proofs.reply.Reply.copy.Given as goal

-- the items so far are copied
abbrev pub invariant-loop-item : goal.invariant-loop-item
invariant-loop-item l = l.copied.items ≡ take l.item-index l.item-items
