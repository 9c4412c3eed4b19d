use Rattle.pm_aux.proofs.leaving.step_out.Goals as goal

pub returns-else-lets_go-clause-rests : goal.returns-else-lets_go-clause-rests
returns-else-lets_go-clause-rests g c = g.met.W.Life.stands_still _
