use Rattle.std.proofs.Common.{◌+◌, List, subst, sym, take}
use Rattle.pm_auth.{specs.{Rules.{IsNoRule, RulesSay, SaysRule}, declared.{rules.Rule.Rule, fault.WordNo.WordNo}}, proofs.Listing.{next_rule, odd}}
use Rattle.pm_auth.proofs.words.rules_of.Goals as goal

pub returns-in-Err-Form-clause-misfit : goal.returns-in-Err-Form-clause-misfit
returns-in-Err-Form-clause-misfit c =
    odd RulesSay SaysRule c.args.words.now c.loop-index.index c.loop-index.rules.items c.index-words-index.result c.as_str.result.now
    c.loop-index-test.true c.index-words-index.is c.as_str.ensures.bytes c.loop-index.invariant
    (subst (λ (w : WordNo). IsNoRule c.as_str.result.now w) c.in-Err-Form.field-0-is c.in-Err-Form.ensures.none)

pub loop-index-preserved : goal.loop-index-preserved
loop-index-preserved c =
    subst (λ (xs : List Rule). RulesSay (take (c.loop-index.index + 1) c.args.words.now) xs) (sym c.in_ok-push.ensures.items)
    (next_rule c.args.words.now c.loop-index.index c.loop-index.rules.items c.index-words-index.result c.as_str.result.now c.in-Ok.rule
    c.loop-index-test.true c.index-words-index.is c.as_str.ensures.bytes c.loop-index.invariant c.in-Ok.ensures.said)
