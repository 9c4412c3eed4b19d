use Rattle.std.proofs.Common.{◌≡◌, ◌∙◌, ap, sym}
use Rattle.pm_wire.specs.{declared.condition.Fixed.TheVariants.FatalMemory, Conditions.fixed_message}
use Rattle.pm_session_exchange.specs.{declared.ending.{Cause.{Cause, TheVariants.ShortOfMemory}, Stage.TheVariants.Outside}, Sent.{bytes_of, last_of}}
use Rattle.pm_session.proofs.{Closings.{closed, short_last}, Said.bytes_of-one}
use Rattle.pm_session.proofs.close.close_short_of_memory.Goals as goal

pub returns : goal.returns
returns g c =
    let ends = c.last_cause-cause.result in
    let is : ends ≡ ShortOfMemory = short_last c.last_cause-cause.new.self.child.standing ends c.last_cause-cause.ensures.last in
    let words : c.fixed.result.now ≡ bytes_of (last_of c.args.decision Outside ends) =
    c.fixed.ensures ∙ sym (bytes_of-one (fixed_message FatalMemory)) ∙ ap (λ (cause : Cause). bytes_of (last_of c.args.decision Outside cause)) (sym is) in
    record {
      closes = closed c.args.decision Outside ShortOfMemory ends c.exit_by.result c.fixed.result.now _ _ _ _ _ c.last_cause-cause.ensures.attentive c.last_cause-cause.ensures.hears c.last_cause-cause.ensures.last words (rw c.last_cause-cause.ensures.link at c.say_last.ensures.says)
          c.exit_by.ensures;
      rests = g.met.W.Life.rests_on _ _ _ c.last_cause-cause.ensures.rests c.say_last.ensures.rests;
    }
