use Rattle.pm_settings.proofs.Apart.{no_script_law}
use Rattle.pm_settings.proofs.laws.no_script.Goals as goal

pub returns : goal.returns
returns c = no_script_law
