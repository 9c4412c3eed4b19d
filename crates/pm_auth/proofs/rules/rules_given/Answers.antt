use Rattle.std.proofs.Common.{Global, Vec}
use Rattle.pm_auth.{specs.declared.rules.Rule.Rule, proofs.Listing.few_said}
use Rattle.pm_auth.proofs.rules.rules_given.Goals as goal

pub returns-clause-few : goal.returns-clause-few
returns-clause-few c = few_said (λ (v : Vec Rule Global). v.items) c.args.rules.now c.rules_of.result c.requires c.rules_of.ensures.said
