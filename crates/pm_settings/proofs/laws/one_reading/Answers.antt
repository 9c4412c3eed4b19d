use Rattle.pm_settings.proofs.Apart.{one_reading_law}
use Rattle.pm_settings.proofs.laws.one_reading.Goals as goal

pub returns : goal.returns
returns c = one_reading_law
