use Rattle.pm_auth.proofs.Cutting.{stripped}
use Rattle.pm_auth.proofs.cuts.after.Goals as goal

pub returns-clause-found : goal.returns-clause-found
returns-clause-found c = (stripped c.args.bytes.now c.args.front.now c.strip_prefix.result c.strip_prefix.ensures.cases).0

pub returns-clause-none : goal.returns-clause-none
returns-clause-none c = (stripped c.args.bytes.now c.args.front.now c.strip_prefix.result c.strip_prefix.ensures.cases).1
