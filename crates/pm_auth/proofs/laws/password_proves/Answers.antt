use Rattle.pm_auth.proofs.AuthLaws.{password_proves}
use Rattle.pm_auth.proofs.laws.password_proves.Goals as goal

pub returns : goal.returns
returns c = password_proves
