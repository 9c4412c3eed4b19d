use Rattle.pm_load.proofs.Replays.{said_more}
use Rattle.pm_load.proofs.greeting.put_greeting.Goals as goal

pub returns : goal.returns
returns c =
    said_more _ _ _ _ _ (said_more _ _ _ _ _ (said_more _ _ _ _ _ (said_more _ _ _ _ _ (said_more _ _ _ _ _ (said_more _ _ _ _ _ (said_more _ _ _ _ _ (said_more _ _ _ _ _ c.in_ok-say.ensures c.in_ok-put_setting.ensures) c.in_ok-put_setting-2.ensures)
    c.in_ok-put_setting-3.ensures)
    c.in_ok-put_setting-4.ensures)
    c.in_ok-put_setting-5.ensures)
    c.in_ok-put_setting-6.ensures)
    c.in_ok-say-2.ensures)
    c.in_ok-say-3.ensures
