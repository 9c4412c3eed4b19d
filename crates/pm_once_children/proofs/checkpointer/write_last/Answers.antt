use Rattle.std.proofs.Common.{◌∙◌, sym}
use Rattle.pm_once_children.proofs.Closing.{made_clean, made_full}
use Rattle.pm_once_children.proofs.checkpointer.write_last.Goals as goal

pub returns-clause-clean : goal.returns-clause-clean
returns-clause-clean g c = λ is. made_clean c.close_at_home.result _ _ _ (sym c.closing.ensures ∙ is) c.close_at_home.ensures.afresh

pub returns-clause-full : goal.returns-clause-full
returns-clause-full g c = λ is. made_full c.close_at_home.result _ (sym c.closing.ensures ∙ is) c.close_at_home.ensures.full
