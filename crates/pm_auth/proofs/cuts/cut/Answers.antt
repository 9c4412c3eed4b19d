use Rattle.pm_auth.proofs.Cutting.{text_cut}
use Rattle.pm_auth.proofs.cuts.cut.Goals as goal

pub returns-clause-found : goal.returns-clause-found
returns-clause-found c = (text_cut c.args.at c.args.text.now c.split_once.result c.split_once.ensures.cases c.requires).0

pub returns-clause-none : goal.returns-clause-none
returns-clause-none c = (text_cut c.args.at c.args.text.now c.split_once.result c.split_once.ensures.cases c.requires).1
