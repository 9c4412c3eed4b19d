use Rattle.pm_session.proofs.Complete.{each_query}
use Rattle.pm_session.proofs.laws.each_query_is_answered.Goals as goal

pub returns : goal.returns
returns g c = each_query g.S.Store.notes g.C.Clock.gives c.front_messages_stand_apart.ensures c.prefix_free.ensures c.no_fault.ensures
