use Rattle.std.proofs.Common.{sym, ◌∙◌}
use Rattle.pm_board_acts.proofs.Ending.{released_keeps, running_keeps}
use Rattle.pm_board_acts.proofs.finish.reap_rest.Goals as goal

pub returns-in-None-clause-ending : goal.returns-in-None-clause-ending
returns-in-None-clause-ending g c =
    running_keeps c.args.slot c.in-Some.child c.args.roster.now.knows c.reap.new.roster.knows c.requires.slot (sym c.seated.ensures ∙ c.in-Some.is) c.in-None.ensures.runs.0 c.in-None.ensures.runs.1

pub returns-in-Some-reap-clause-ending : goal.returns-in-Some-reap-clause-ending
returns-in-Some-reap-clause-ending g c =
    released_keeps g.M.Letter c.args.slot c.in-Some.child c.in-Some-reap.released c.args.roster.now.knows c.reap.new.roster.knows c.requires.slot (sym c.seated.ensures ∙ c.in-Some.is)
    c.in-Some-reap.ensures.ended.0 c.in-Some-reap.ensures.ended.1
