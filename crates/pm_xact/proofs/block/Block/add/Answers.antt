use Rattle.std.proofs.Common.{length, ap, arith, length-append}
use Rattle.pm_xact.proofs.Adding.{added_within}
use Rattle.pm_xact.proofs.block.Block.add.Goals as goal

pub extended-requires : goal.extended-requires
extended-requires c =
    let script = c.self.inside.script in
    let held = c.self.invariant in
    let all = length-append script c.args.script in
    let one = ap length c.stmts.ensures.list in
    let two = ap length c.stmts-2.ensures.list in
    let few = c.if-stmts.false in
    added_within script c.self.inside.earlier c.args.script c.replace-earlier.result c.stmts-5.result.now c.stmts-3.result.now c.stmts-4.result.now c.replace-earlier.ensures.value c.stmts-3.ensures.list c.stmts-4.ensures.list c.stmts-5.ensures.list held.1
    c.stmts.ensures.limits c.stmts-2.ensures.limits (omega (arith, all, one, two, few, held.0))
