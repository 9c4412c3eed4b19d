use Rattle.pm_query.proofs.LawProofs.{commit_leaves_rows_law}
use Rattle.pm_query.proofs.laws.commit_leaves_rows.Goals as goal

pub returns : goal.returns
returns c = commit_leaves_rows_law
