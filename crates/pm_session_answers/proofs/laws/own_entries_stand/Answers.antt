use Rattle.pm_session_answers.proofs.Own.{own_stand}
use Rattle.pm_session_answers.proofs.laws.own_entries_stand.Goals as goal

pub returns : goal.returns
returns c = own_stand
