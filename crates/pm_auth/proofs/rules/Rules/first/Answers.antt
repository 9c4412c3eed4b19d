use Rattle.std.{proofs.Common.{◌≡◌, ◌∙◌, List, get_or, sym, ap}, specs.Prelude.Some}
use Rattle.pm_auth.{specs.{Access.Access, declared.rules.Rule.Rule}, proofs.Finding.{method_at, none_for}}
use Rattle.pm_auth.proofs.rules.Rules.first.Goals as goal

pub returns-in_err-at-clause-method : goal.returns-in_err-at-clause-method
returns-in_err-at-clause-method c =
    rw c.from_residual.ensures
    (none_for c.args.self.now.rules c.as_slice.result.now c.args.database.now c.args.user.now
    (c.as_slice.ensures.value ∙ ap (λ (a : Access). a.rules) c.self.view_is) (sym c.place_of.ensures.place ∙ c.in_err-at.was))

pub returns-clause-method : goal.returns-clause-method
returns-clause-method c =
    let rules_are : c.self.inside.rules.items ≡ c.args.self.now.rules = ap (λ (a : Access). a.rules) c.self.view_is in
    ap (λ (rule : Rule). Some rule.method) (c.index.ensures ∙ ap (λ (xs : List Rule). get_or xs c.in_ok-at.at c.index.result.now) rules_are)
    ∙ method_at c.args.self.now.rules c.as_slice.result.now c.args.database.now c.args.user.now c.in_ok-at.at c.index.result.now
    (c.as_slice.ensures.value ∙ rules_are) (sym c.place_of.ensures.place ∙ c.in_ok-at.was) c.in_ok-at.ensures.within
