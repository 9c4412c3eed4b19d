use Rattle.pm_state.proofs.{ReplayLaws.replayed_append, TurnJournal.{begun-agrees, call-writes, turned-still, legal-append}}
use Rattle.pm_state.proofs.laws.writes_a_legal_journal.Goals as goal

pub returns : goal.returns
returns c =
    record { begins = begun-agrees; call = call-writes; turned = turned-still; append = legal-append; replays = replayed_append }
