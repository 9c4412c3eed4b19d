use Rattle.std.proofs.Common.{take}
use Rattle.pm_auth.specs.Rules.{RulesSay}
use Rattle.pm_auth.proofs.words.rules_of.Given as goal

abbrev pub invariant-loop-index : goal.invariant-loop-index
invariant-loop-index l = RulesSay (take l.index l.words) l.rules.items
