use Rattle.std.{proofs.Common.{sym, ap, subst, ◌∙◌}, specs.Prelude.All}
use Rattle.pm_rows.specs.{Fold.committed, Limits.IsWithinRowLimits}
use Rattle.pm_query.{specs.{Answer.{items_of, commit_of}, Laws.ErrorsComeLast, Limits.{HasShortRows, HasShortValues, IsWithinCommitLimits}}, proofs.LawProofs.{errors_come_last, commit_limits, row_limits, short_rows, short_items}}
use Rattle.pm_query.proofs.run.answer.Goals as goal

pub returns-clause-last : goal.returns-clause-last
returns-clause-last c =
    let reply = c.outcome.ensures.reply ∙ c.in_ok-run.ensures.items ∙ ap (items_of c.args.rows.now) c.stmts.ensures.list in
    subst ErrorsComeLast (sym reply) (errors_come_last c.args.rows.now c.args.script.now)

pub returns-clause-commit_limits : goal.returns-clause-commit_limits
returns-clause-commit_limits c =
    let commit = c.outcome.ensures.commit ∙ c.in_ok-run.ensures.changes ∙ ap (commit_of c.args.rows.now) c.stmts.ensures.list in
    subst IsWithinCommitLimits (sym commit) (commit_limits c.args.rows.now c.args.script.now c.stmts.ensures.limits)

pub returns-clause-row_limits : goal.returns-clause-row_limits
returns-clause-row_limits c h =
    let commit = c.outcome.ensures.commit ∙ c.in_ok-run.ensures.changes ∙ ap (commit_of c.args.rows.now) c.stmts.ensures.list in
    subst (λ changes. IsWithinRowLimits (committed c.args.rows.now changes)) (sym commit) (row_limits c.args.rows.now c.args.script.now c.stmts.ensures.limits h)

pub returns-clause-short : goal.returns-clause-short
returns-clause-short c h =
    let reply = c.outcome.ensures.reply ∙ c.in_ok-run.ensures.items ∙ ap (items_of c.args.rows.now) c.stmts.ensures.list in
    subst (All HasShortValues) (sym reply) (short_items c.args.rows.now c.args.script.now c.stmts.ensures.limits h)

pub returns-clause-short_rows : goal.returns-clause-short_rows
returns-clause-short_rows c h =
    let commit = c.outcome.ensures.commit ∙ c.in_ok-run.ensures.changes ∙ ap (commit_of c.args.rows.now) c.stmts.ensures.list in
    subst (λ changes. HasShortRows (committed c.args.rows.now changes)) (sym commit) (short_rows c.args.rows.now c.args.script.now c.stmts.ensures.limits h)
