use Rattle.std.proofs.Common.{◌∙◌, sym}
use Rattle.pm_session_exchange.proofs.MomentLaws.{told_cause}
use Rattle.pm_session_exchange.proofs.line.Line.look.Goals as goal

pub returns-in-Some-clause-cause : goal.returns-in-Some-clause-cause
returns-in-Some-clause-cause g c = told_cause _ c.in-Some.cause _ _ c.listen.ensures.attentive (sym c.ends.ensures ∙ c.in-Some.is)
