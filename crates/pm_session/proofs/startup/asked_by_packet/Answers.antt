use Rattle.std.proofs.Common.{◌∙◌, inr, sym}
use Rattle.pm_session.proofs.startup.asked_by_packet.Goals as goal

pub returns-in-Refuse : goal.returns-in-Refuse
returns-in-Refuse c = λ bytes front. (c.args.used, front.within, inr (_, front.decides, sym c.next.ensures ∙ c.in-Refuse.is))
