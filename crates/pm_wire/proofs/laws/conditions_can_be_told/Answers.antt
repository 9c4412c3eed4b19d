use Rattle.pm_wire.proofs.Tellable.{told_writable, told_short}
use Rattle.pm_wire.proofs.laws.conditions_can_be_told.Goals as goal

pub returns-clause-writable : goal.returns-clause-writable
returns-clause-writable c = told_writable

pub returns-clause-short : goal.returns-clause-short
returns-clause-short c = told_short
