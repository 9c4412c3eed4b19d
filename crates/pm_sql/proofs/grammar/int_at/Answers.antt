use Rattle.std.proofs.Common.{◌-◌, ◌^◌, take, min, Bool, ℕ, List, sym, ap, subst, ◌∙◌}
use Rattle.pm_sql.{specs.{Tokens.{digits_len, digits_value}, Reading.Fails, Grammar.{digits_at, sign_of, int_at, fits_bigint}}, proofs.Numbers.{out_of_bigint, int_out_of_range}}
use Rattle.pm_sql.proofs.grammar.int_at.Goals as goal

pub returns-in-None : goal.returns-in-None
returns-in-None c =
    let sign = c.sign_of-is_negative.ensures ∙ ap sign_of c.skipped.ensures in
    let number = c.magnitude.ensures ∙ ap (λ digits. min (digits_value digits) (2 ^ 64 - 1)) c.in_ok-found.ensures.split.digits in
    let out = out_of_bigint c.sign_of-is_negative.result.0 _ c.magnitude.result number c.in-None.ensures in
    let fault = int_out_of_range c.args.input.now c.in_ok-found.found.here.now
    (ap (λ (s : Bool × List ℕ). digits_at s.1) (sym sign) ∙ c.in_ok-found.ensures.read)
    (ap (λ (s : Bool × List ℕ). fits_bigint s.0 (digits_value (take (digits_len c.in_ok-found.found.here.now) c.in_ok-found.found.here.now))) (sym sign) ∙ out) in
    subst (λ stop. Fails stop (int_at c.args.input.now)) (sym c.at.ensures) fault
