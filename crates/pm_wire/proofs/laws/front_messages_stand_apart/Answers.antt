use Rattle.pm_wire.proofs.Apart.{front_apart}
use Rattle.pm_wire.proofs.laws.front_messages_stand_apart.Goals as goal

pub returns : goal.returns
returns c = front_apart
