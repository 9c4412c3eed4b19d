use Rattle.std.{proofs.Common.{◌∙◌, ap, ℕ}, specs.Prelude.fold}
use Rattle.pm_record.{specs.Bodies.change_left, proofs.Bodies.left_commit}
use Rattle.pm_record.proofs.commit.read_commit.Goals as goal

pub returns-clause-left : goal.returns-clause-left
returns-clause-left c = c.in_ok-commit.ensures.left ∙ ap (λ (s : ℕ). fold change_left s c.in_ok-commit.commit) c.saturating_sub-left.ensures ∙ left_commit c.args.left c.in_ok-commit.commit
