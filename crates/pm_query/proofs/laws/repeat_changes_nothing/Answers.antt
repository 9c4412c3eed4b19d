use Rattle.pm_query.proofs.Books.{repeat_changes_nothing}
use Rattle.pm_query.proofs.laws.repeat_changes_nothing.Goals as goal

pub returns : goal.returns
returns c = repeat_changes_nothing
