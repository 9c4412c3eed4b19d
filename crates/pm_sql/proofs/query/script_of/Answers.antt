use Rattle.std.proofs.{Common.{length, sym, ap, subst, ◌∙◌, arith, rules}, lemmas.Result.err_from_is_err_and}
use Rattle.pm_sql.{specs.{Tokens.behind_mark, Reading.Fails, Query.{script_of, stmt_at, is_at_end}}, proofs.{Steps.{at_end, behind_semicolon, behind_stmt, fault_in_stmt, fault_behind_stmt, is_done, is_out_of_steps, with_stmt_limits}, query.script_of.Goals.{else-loop-test, then-loop-test+then-is_empty}}}
use Rattle.pm_sql.proofs.query.script_of.Goals as goal

pub returns-in_err-stmt : goal.returns-in_err-stmt
returns-in_err-stmt c =
    let p = err_from_is_err_and c.from_residual.result c.from_residual.ensures.1 in
    let more = ap is_at_end (sym c.skipped-here.ensures) ∙ at_end _ _ (sym c.is_empty.ensures ∙ c.if-is_empty.false) in
    let mark = ap (behind_mark 59) (sym c.skipped-here.ensures) ∙ sym c.in_default.ensures in
    let fault = subst (λ here. Fails c.in_err-stmt.field-0.0 (stmt_at c.loop.writing here)) c.skipped-here.ensures c.in_err-stmt.ensures.read in
    rw (p.1, p.2) (fault_in_stmt c.in_err-stmt.field-0.0 (length c.args.text.now) c.loop.counter c.loop.script c.loop.rest.now c.loop.writing (script_of c.args.text.now)
    c.loop-test.true more mark fault c.loop.invariant.1)

pub returns-in_err-rest : goal.returns-in_err-rest
returns-in_err-rest c =
    let p = err_from_is_err_and c.from_residual-in_err-rest.result c.from_residual-in_err-rest.ensures.1 in
    let more = ap is_at_end (sym c.skipped-here.ensures) ∙ at_end _ _ (sym c.is_empty.ensures ∙ c.if-is_empty.false) in
    let mark = ap (behind_mark 59) (sym c.skipped-here.ensures) ∙ sym c.in_default.ensures in
    let read = ap (stmt_at c.loop.writing) (sym c.skipped-here.ensures) ∙ c.in_ok-stmt.ensures.read in
    rw (p.1, p.2) (fault_behind_stmt c.in_err-rest.field-0.0 (length c.args.text.now) c.loop.counter c.loop.script c.loop.rest.now c.in_ok-stmt.behind.now c.in_ok-stmt.stmt c.loop.writing (script_of c.args.text.now)
    c.loop-test.true more mark read c.in_err-rest.ensures c.loop.invariant.1)

pub push-requires : goal.push-requires
push-requires c =
    with_stmt_limits c.loop.script c.in_ok-stmt.stmt c.loop.invariant.1.limits c.in_ok-stmt.ensures.short (λ writes. let room = c.in_ok-stmt.ensures.room writes in omega (arith, room, c.loop.invariant.1.counted))

pub loop-preserved-in-Some : goal.loop-preserved-in-Some
loop-preserved-in-Some c =
    let more = ap is_at_end (sym c.skipped-here.ensures) ∙ at_end _ _ (sym c.is_empty.ensures ∙ c.if-is_empty.false) in
    let mark = ap (behind_mark 59) (sym c.skipped-here.ensures) ∙ sym c.in-Some.ensures in (
      search rules,
      behind_semicolon (length c.args.text.now) c.loop.counter c.loop.script c.loop.rest.now c.in-Some.behind.now c.loop.writing (script_of c.args.text.now)
          c.loop-test.true more mark c.loop.invariant.1,
    )

pub loop-preserved : goal.loop-preserved
loop-preserved c =
    let more = ap is_at_end (sym c.skipped-here.ensures) ∙ at_end _ _ (sym c.is_empty.ensures ∙ c.if-is_empty.false) in
    let mark = ap (behind_mark 59) (sym c.skipped-here.ensures) ∙ sym c.in_default.ensures in
    let read = ap (stmt_at c.loop.writing) (sym c.skipped-here.ensures) ∙ c.in_ok-stmt.ensures.read in
    let limits = with_stmt_limits c.loop.script c.in_ok-stmt.stmt c.loop.invariant.1.limits c.in_ok-stmt.ensures.short (λ writes. let room = c.in_ok-stmt.ensures.room writes in omega (arith, room, c.loop.invariant.1.counted)) in (
      search rules,
      rw c.in_ok-push.ensures.ok (behind_stmt (length c.args.text.now) c.loop.counter c.loop.script c.loop.rest.now c.in_ok-stmt.behind.now c.in_ok-rest.rest.now c.in_ok-stmt.stmt c.loop.writing c.with_stmt-writing.result (script_of c.args.text.now)
          c.loop-test.true more mark read c.in_ok-rest.ensures limits c.with_stmt-writing.ensures c.loop.invariant.1),
    )

pub returns : goal.returns
returns c =
    elim c.loop-test.branch [
      | else-loop-test w ↦ is_out_of_steps (length c.args.text.now) c.loop.counter c.loop.script c.loop.rest.now c.loop.writing (script_of c.args.text.now) w.loop-test.false c.loop.invariant.1
      | then-loop-test+then-is_empty w ↦
          is_done (length c.args.text.now) c.loop.counter c.loop.script c.loop.rest.now c.loop.writing (script_of c.args.text.now) w.loop-test.true
          (ap is_at_end (sym w.skipped-here.ensures) ∙ at_end _ _ (sym w.is_empty.ensures ∙ w.if-is_empty.true)) c.loop.invariant.1
    ]
