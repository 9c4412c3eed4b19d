use Rattle.std.proofs.{Common.{arith}, lemmas.Grind.common_steps}
use Rattle.pm_session.proofs.Entries.{apart_by}
use Rattle.pm_session.proofs.startup.has_passed.Goals as goal

pub returns : goal.returns
returns g c = λ passed. apart_by _ _ _ _ c.requires c.now.ensures (grind (arith, common_steps, c.saturating_sub.ensures, passed))
