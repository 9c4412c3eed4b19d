use Rattle.pm_wire.proofs.Longests.{longest_is}
use Rattle.pm_wire.proofs.laws.back_messages_have_a_longest.Goals as goal

pub returns : goal.returns
returns c = longest_is
