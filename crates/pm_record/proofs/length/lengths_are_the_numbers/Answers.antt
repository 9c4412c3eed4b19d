use Rattle.pm_record.proofs.Lengths.{change_long, commit_long, body_long, need_long}
use Rattle.pm_record.proofs.length.lengths_are_the_numbers.Goals as goal

pub returns-clause-changes : goal.returns-clause-changes
returns-clause-changes c = change_long

pub returns-clause-commits : goal.returns-clause-commits
returns-clause-commits c = commit_long

pub returns-clause-bodies : goal.returns-clause-bodies
returns-clause-bodies c = body_long

pub returns-clause-needs : goal.returns-clause-needs
returns-clause-needs c = need_long
