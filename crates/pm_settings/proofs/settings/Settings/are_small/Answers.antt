use Rattle.std.proofs.Common.{subst}
use Rattle.pm_settings.{specs.Told.IsTold, proofs.Tellings.{told_small}}
use Rattle.pm_settings.proofs.settings.Settings.are_small.Goals as goal

pub returns : goal.returns
returns c = told_small c.args.self.now (subst IsTold c.self.view_is c.self.invariant)
