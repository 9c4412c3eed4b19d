use Rattle.pm_supervisor.proofs.Wells.{none-until_redo}
use Rattle.pm_supervisor.proofs.laws.admits_none_until_redo.Goals as goal

pub returns : goal.returns
returns c =
    none-until_redo
