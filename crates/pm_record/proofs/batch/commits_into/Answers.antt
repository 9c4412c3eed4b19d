use Rattle.std.proofs.{Common.{arith, refl}, lemmas.Result.err_from_is_err_and}
use Rattle.pm_record.{specs.{File.commit_step, Repeated.through_at}, proofs.Loops.{fails_behind, through_end, through_on}}
use Rattle.pm_record.proofs.batch.commits_into.Goals as goal

pub loop-i-preserved : goal.loop-i-preserved
loop-i-preserved c = (
  omega (arith, c.in_ok-less.ensures.less, c.loop-i.invariant.0),
  through_on commit_step c.args.count c.loop-i.i (c.loop-i.left, c.loop-i.rows) c.loop-i.rest.now _ c.loop-i.invariant.1 c.loop-i-test.true (c.in_ok-less.less, c.in_ok-less.more) c.in_ok-less.after.now _ refl c.in_ok-less.ensures.read,
)

pub returns-in_err-less : goal.returns-in_err-less
returns-in_err-less c =
    let p = err_from_is_err_and c.from_residual.result c.from_residual.ensures.1 in
    rw (p.1, p.2)
    (fails_behind c.in_err-less.field-0.0 (through_at commit_step c.args.count (c.args.start, c.args.rows) c.args.bytes.now) _
    (through_end commit_step c.args.count c.loop-i.i (c.loop-i.left, c.loop-i.rows) c.loop-i.rest.now _ c.loop-i.invariant.1 c.loop-i-test.true c.in_err-less.field-0.0 c.in_err-less.ensures.read))
