use Rattle.std.proofs.Common.{◌∙◌, ap, refl}
use Rattle.pm_query.{specs.Calls.user_of, proofs.NotedLaws.{call_still, same_user}}
use Rattle.pm_session.proofs.{Conversing.replied, Overtaking.overtaken_not_sending}
use Rattle.pm_session.proofs.desk.Desk.reply_to.Goals as goal

pub returns-clause-goes : goal.returns-clause-goes
returns-clause-goes g c =
    let said = rw c.in_ok-answer.ensures.link at c.say_answer.ensures.says in
    let noted = call_still g.W.Store.notes _ _ _ _ g.met.W.Store.in_turn c.in_ok-answer.ensures.notes (g.met.W.Store.apart _ _ c.say_answer.ensures.rests) in
    rw (← c.self.view_is)
    (replied g.W.Store.notes (g.C.Clock.gives c.args.means.now.clock.now) (user_of (g.W.Store.stamp c.self.inside.line.work) (g.W.Store.view c.args.pass.now)) c.args.text.now _ c.say_answer.result _ _ _ _ _ _ _ _ _ (ap (λ at. at.outbox.bytes) c.self.view_is ∙ c.requires.empty)
    noted c.in_ok-answer.ensures.fit c.in_ok-answer.ensures.slept c.in_ok-answer.ensures.uncancelled c.in_ok-answer.ensures.hears said c.say_answer.ensures.empty)

pub returns-clause-overtaken : goal.returns-clause-overtaken
returns-clause-overtaken g c = let says = c.say_answer.ensures.says in overtaken_not_sending _ _ c.say_answer.result _ _ says.left

pub returns-clause-admits : goal.returns-clause-admits
returns-clause-admits g c = g.met.W.Store.admits_still _ _ _ c.say_answer.ensures.rests c.in_ok-answer.ensures.admits

pub returns-clause-user : goal.returns-clause-user
returns-clause-user g c =
    rw (← c.self.view_is) (same_user _ _ (g.W.Store.view c.answer_to.new.pass) (g.W.Store.view c.answer_to.new.pass) (g.met.W.Store.stays _ _ _ (g.met.W.Store.apart _ _ c.say_answer.ensures.rests)) refl ∙ c.in_ok-answer.ensures.user)
