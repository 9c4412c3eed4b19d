use Rattle.pm_wire.proofs.Apart.{back_ends}
use Rattle.pm_wire.proofs.laws.back_spellings_stand_apart.Goals as goal

pub returns : goal.returns
returns c = back_ends
