use Rattle.std.proofs.Common.{rules, ◌≡◌, ◌∙◌, None, Some, Err, ap, sym, subst}
use Rattle.pm_xact.{specs.{Reading.{control_of, tokens_of}, Control.{IsTold}}, proofs.{Asking.{all_of_control, asks_control, fault_told, is_told, script_told}, asked.read.Goals.{In-None, In-Some}}}
use Rattle.pm_xact.proofs.asked.read.Goals as goal

-- what begins or ends a block, and that nothing does
some : (c : In-Some) → control_of (tokens_of c.args.text.now) ≡ Some c.in-Some.asked
some c = ap (λ t. control_of (tokens_of t)) (sym c.as_bytes.ensures.value) ∙ sym c.control_of.ensures ∙ c.in-Some.is

none : (c : In-None) → control_of (tokens_of c.args.text.now) ≡ None
none c = ap (λ t. control_of (tokens_of t)) (sym c.as_bytes.ensures.value) ∙ sym c.control_of.ensures ∙ c.in-None.is

pub returns-in_err-parse-in-None-clause-every : goal.returns-in_err-parse-in-None-clause-every
returns-in_err-parse-in-None-clause-every c asked asks =
    let fault = c.in_err-parse-in-None.field-0.0 in
    let is : c.from_residual.result ≡ Err fault = search rules in
    subst (λ r. IsTold asked r) (sym is)
    (fault_told c.args.text.now fault (none (goal.at.returns-in_err-parse-in-None-clause-every c).In-None) c.in_err-parse-in-None.ensures.query asked asks)

pub returns-in-Some-clause-asked : goal.returns-in-Some-clause-asked
returns-in-Some-clause-asked c = asks_control c.args.text.now c.in-Some.asked (some c)

pub returns-in-Some-clause-every : goal.returns-in-Some-clause-every
returns-in-Some-clause-every c asked asks = is_told asked c.in-Some.asked (all_of_control c.args.text.now c.in-Some.asked asked (some c) asks)

pub returns-in_ok-parse-in-None-clause-every : goal.returns-in_ok-parse-in-None-clause-every
returns-in_ok-parse-in-None-clause-every c asked asks =
    script_told c.args.text.now c.in_ok-parse-in-None.field-0 (none (goal.at.returns-in_ok-parse-in-None-clause-every c).In-None) c.in_ok-parse-in-None.ensures.query asked asks
