use Rattle.pm_query.proofs.Growth.{commits_add_their_bytes, rows_are_within_needs}
use Rattle.pm_query.proofs.laws.rows_are_within_needs.Goals as goal

pub returns-clause-commits : goal.returns-clause-commits
returns-clause-commits c = commits_add_their_bytes

pub returns-clause-numbers : goal.returns-clause-numbers
returns-clause-numbers c = rows_are_within_needs
