use Rattle.std.proofs.Common.{◌∙◌}
use Rattle.pm_load_run.proofs.Working.{summary_as}
use Rattle.pm_load_run.proofs.checking.left_as_meant.Goals as goal

pub returns-then-is_that : goal.returns-then-is_that
returns-then-is_that c =
    let pair = c.in-Ok.ensures.found in
    record {
      found = c.in-Ok.found;
      finds = record { content = pair.content; is = pair.is; pair = pair.pair; besides = tt };
      only_that = c.in-Ok.ensures.exact;
      told = c.in-Some.ensures;
      same = c.is_that.ensures.0 c.if-is_that.true ∙ c.in-Some-summary_of.ensures ∙ summary_as c.args.meant.now.standing c.rows.result.now c.commits.result c.rows.ensures c.commits.ensures;
    }
