use Rattle.pm_settings.proofs.Tellings.{each_by_itself_law}
use Rattle.pm_settings.proofs.laws.each_by_itself.Goals as goal

pub returns : goal.returns
returns c = each_by_itself_law
