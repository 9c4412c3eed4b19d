use Rattle.pm_load.proofs.Replays.{said_more}
use Rattle.pm_load.proofs.answers.put_one.Goals as goal

pub returns : goal.returns
returns c = said_more _ _ _ _ _ (said_more _ _ _ _ _ c.in_ok-say.ensures c.in_ok-say-2.ensures) c.in_ok-say-3.ensures
