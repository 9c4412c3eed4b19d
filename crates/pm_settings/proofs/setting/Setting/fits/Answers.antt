use Rattle.pm_settings.specs.Names.{is_taken}
use Rattle.pm_settings.proofs.setting.Setting.fits.Goals as goal

pub returns : goal.returns
unfolding is_taken
returns c = cc
