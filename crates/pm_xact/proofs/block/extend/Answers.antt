use Rattle.std.proofs.Common.{◌≡◌, ◌+◌, get_or, sym, subst}
use Rattle.pm_sql.specs.Limits.{IsWithinScriptLimits}
use Rattle.pm_xact.proofs.Adding.{one_more, within_more}
use Rattle.pm_xact.proofs.block.extend.Goals as goal

pub push-requires : goal.push-requires
push-requires c =
    let more = one_more c.args.script.now c.args.stmts.now c.loop-stmt.script c.loop-stmt.stmt-index c.in_ok-copy.field-0 c.loop-stmt-test.true c.loop-stmt.invariant (subst (λ stmt. stmt ≡ get_or c.args.stmts.now c.loop-stmt.stmt-index stmt) (sym c.in_ok-copy.ensures) c.stmt-item.is) in
    subst IsWithinScriptLimits (sym more) (within_more c.args.script.now c.args.stmts.now (c.loop-stmt.stmt-index + 1) c.requires)
