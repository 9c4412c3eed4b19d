use Rattle.pm_wire_back.proofs.BackAgain.{back_apart}
use Rattle.pm_wire_back.proofs.laws.back_messages_stand_apart.Goals as goal

pub returns : goal.returns
returns c = back_apart
