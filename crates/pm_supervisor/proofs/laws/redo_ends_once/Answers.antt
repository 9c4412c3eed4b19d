use Rattle.pm_supervisor.proofs.Wells.{once-in_generation}
use Rattle.pm_supervisor.proofs.laws.redo_ends_once.Goals as goal

pub returns : goal.returns
returns c =
    once-in_generation
