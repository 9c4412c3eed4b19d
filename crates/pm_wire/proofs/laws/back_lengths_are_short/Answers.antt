use Rattle.pm_wire.specs.Sizes.{short_iff}
use Rattle.pm_wire.proofs.laws.back_lengths_are_short.Goals as goal

pub returns : goal.returns
returns c = short_iff
