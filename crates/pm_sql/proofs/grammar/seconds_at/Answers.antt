use Rattle.std.proofs.Common.{◌-◌, ◌^◌, ◌≤◌, min, sym, ap, subst, ◌∙◌, arith}
use Rattle.pm_sql.{specs.{Tokens.digits_value, Reading.Fails, Grammar.seconds_at}, proofs.Numbers.{out_of_seconds, seconds_out_of_range}}
use Rattle.pm_sql.proofs.grammar.seconds_at.Goals as goal

pub returns-in-Err : goal.returns-in-Err
returns-in-Err c =
    let number = c.magnitude.ensures ∙ ap (λ digits. min (digits_value digits) (2 ^ 64 - 1)) c.in_ok-found.ensures.split.digits in
    let large : 2 ^ 32 ≤ c.magnitude.result = omega (arith, c.in-Err.ensures) in
    let fault = seconds_out_of_range c.args.input.now c.in_ok-found.found.here.now c.in_ok-found.ensures.read (out_of_seconds _ c.magnitude.result number large) in
    subst (λ stop. Fails stop (seconds_at c.args.input.now)) (sym c.at.ensures) fault
