use Rattle.pm_aux.proofs.Noting.{learned_by}
use Rattle.pm_aux.proofs.startup_child.read.Goals as goal

pub returns-in-Err-clause-learned : goal.returns-in-Err-clause-learned
returns-in-Err-clause-learned g c = learned_by (g.W.Store.learned c.redo.new.self) c.in-Err.no c.in-Err.ensures.learned
