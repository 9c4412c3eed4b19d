use Rattle.pm_query.proofs.LawProofs.{only_writes_commit_law}
use Rattle.pm_query.proofs.laws.only_writes_commit.Goals as goal

pub returns : goal.returns
returns c = only_writes_commit_law
