use Rattle.std.proofs.Common.{◌∙◌}
use Rattle.pm_session.proofs.Closings.{closed}
use Rattle.pm_session.proofs.desk.Desk.close.Goals as goal

pub returns : goal.returns
returns g c =
    record {
      closes = rw (← c.self.view_is) (closed c.args.decision c.args.stage c.args.cause c.last_cause-cause.result c.exit_by.result c.as_slice.result.now _ _ _ _ _ c.last_cause-cause.ensures.attentive c.last_cause-cause.ensures.hears c.last_cause-cause.ensures.last
          (c.as_slice.ensures ∙ c.put_last.ensures.bytes) (rw c.last_cause-cause.ensures.link at c.say_last.ensures.says) c.exit_by.ensures);
      rests = rw (← c.self.view_is) (g.met.W.Life.rests_on _ _ _ c.last_cause-cause.ensures.rests c.say_last.ensures.rests);
    }
