use Rattle.std.proofs.{Common.{sym, ap, ◌∙◌, arith}, lemmas.{Bool.Decides.nat_tests, List.take_all}}
use Rattle.pm_query.{specs.Answer.{after_statement, after_script, items_of}, proofs.Scripts.items_behind}
use Rattle.pm_query.proofs.run.Run.of.Goals as goal

pub returns-clause-items : goal.returns-clause-items
returns-clause-items c =
    let whole = take_all c.loop-stmt.stmt-index c.in-Some.before.now (grind (arith, nat_tests, c.loop-stmt-test.false)) in
    let split = c.in-Some.ensures.cases in
    c.in_ok-finish.ensures.items
    ∙ ap (λ progress. (after_statement progress c.in-Some.last.now).items) (c.loop-stmt.invariant.progress ∙ ap (after_script c.args.rows.now) whole)
    ∙ sym (items_behind c.args.rows.now c.in-Some.before.now c.in-Some.last.now)
    ∙ ap (items_of c.args.rows.now) (sym split.0)
