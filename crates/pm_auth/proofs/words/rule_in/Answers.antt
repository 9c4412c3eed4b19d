use Rattle.std.proofs.{Common.{◌∷◌, ◌++◌}, lemmas.Result.err_from_is_err_and}
use Rattle.pm_auth.{specs.Rules.method_word, proofs.{Cutting.no_cut, RuleWords.{method_is, no_database, no_user, rest_cut, rule_cut}}}
use Rattle.pm_auth.proofs.words.rule_in.Goals as goal

pub returns-in_default-clause-none : goal.returns-in_default-clause-none
returns-in_default-clause-none c =
    λ rule says. no_cut 32 c.args.word.now says.database (says.user ++ 32 ∷ method_word rule.method) c.in_default.ensures.none
    (rule_cut c.args.word.now rule says)

pub returns-in_default-cut-clause-none : goal.returns-in_default-cut-clause-none
returns-in_default-cut-clause-none c =
    λ rule says. no_cut 32 c.in-Some.rest.now says.user (method_word rule.method) c.in_default-cut.ensures.none
    (rest_cut c.args.word.now c.in-Some.database.now c.in-Some.rest.now rule c.in-Some.ensures.found says).1

pub returns-in_default-method_named-clause-none : goal.returns-in_default-method_named-clause-none
returns-in_default-method_named-clause-none c =
    λ rule says. c.in_default-method_named.ensures.none rule.method
    (method_is c.args.word.now c.in-Some.database.now c.in-Some.rest.now c.in-Some-cut.user.now c.in-Some-cut.method.now rule c.in-Some.ensures.found
    c.in-Some-cut.ensures.found says).1

pub returns-in_err-field_in-clause-none : goal.returns-in_err-field_in-clause-none
returns-in_err-field_in-clause-none c =
    let p = err_from_is_err_and c.from_residual.result c.from_residual.ensures.1 in
    rw (p.1, p.2)
    (no_database c.args.word.now c.in-Some.database.now c.in-Some.rest.now c.in_err-field_in.field-0.0 c.in-Some.ensures.found
    c.in_err-field_in.ensures.none)

pub returns-in_err-field_in-2-clause-none : goal.returns-in_err-field_in-2-clause-none
returns-in_err-field_in-2-clause-none c =
    let p = err_from_is_err_and c.from_residual-in_err-field_in-2.result c.from_residual-in_err-field_in-2.ensures.1 in
    rw (p.1, p.2)
    (no_user c.args.word.now c.in-Some.database.now c.in-Some.rest.now c.in-Some-cut.user.now c.in-Some-cut.method.now c.in_err-field_in-2.field-0.0
    c.in-Some.ensures.found c.in-Some-cut.ensures.found c.in_err-field_in-2.ensures.none)
