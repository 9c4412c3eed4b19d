use Rattle.std.proofs.Common.{◌∙◌, sym}
use Rattle.pm_supervisor_journal.proofs.Rolls.{without-found, without-absent}
use Rattle.pm_supervisor_journal.proofs.roll.Roll.remove.Goals as goal

pub returns-in-Some-clause-children : goal.returns-in-Some-clause-children
returns-in-Some-clause-children c =
    c.remove.ensures.items ∙ without-found c.args.pid c.args.self.now.children.items c.in-Some.place c.remove.result (sym c.place_of.ensures ∙ c.in-Some.is)

pub returns-in_default-clause-children : goal.returns-in_default-clause-children
returns-in_default-clause-children c = without-absent c.args.pid c.args.self.now.children.items (sym c.place_of.ensures ∙ c.in_default.is)
