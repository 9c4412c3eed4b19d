use Rattle.std.proofs.Common.{sym, ◌∙◌}
use Rattle.pm_startup.proofs.Bodies.{ends_early}
use Rattle.pm_startup.proofs.parameters.item_at.Goals as goal

pub returns-else-is_empty-2-clause-item : goal.returns-else-is_empty-2-clause-item
returns-else-is_empty-2-clause-item c =
    ends_early c.in-Some.name.now c.in-Some.after.now c.args.rest.now
    (sym c.is_empty.ensures ∙ c.if-is_empty.true)
    (sym c.is_empty-then-is_empty.ensures ∙ c.if-is_empty-2.false) c.in-Some.ensures.found.1
