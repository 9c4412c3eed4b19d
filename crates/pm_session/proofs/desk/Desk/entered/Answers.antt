use Rattle.std.proofs.Common.{◌≡◌, ◌∙◌, ℕ, subst, sym, refl, Ok, Err}
use Rattle.pm_child_life.specs.Attention.{HasAsked}
use Rattle.pm_query.proofs.NotedLaws.{same_user}
use Rattle.pm_session_exchange.{specs.{pm_query.Calls.{User, user_of}, declared.ending.Stage.TheVariants.Greeted, Sent.{bytes_of, greeting}, Exchange.Sends, Moments.moment, Answers.IsOvertakenBy}, proofs.OvertakingLaws.overtaken_not_broken_off}
use Rattle.pm_admit.specs.declared.Cac.TheVariants as decisions
use Rattle.pm_session.{specs.Turns.at_desk, proofs.{Attentions.asked_on, Overtaking.closed_overtaken, Conversing.conversed_as, Sessions.{Talked, served_among, talked_on, talked_cut, served_inside, inside_at}, desk.Desk.entered.Goals.{in-Ok, in-Err}}}
use Rattle.pm_session.proofs.desk.Desk.entered.Goals as goal

pub returns-clause-serves : goal.returns-clause-serves
returns-clause-serves g c =
    let user : User = user_of (g.W.Store.stamp c.args.self.now.work) (g.W.Store.view c.args.pass.now) in
    let l0 = c.args.self.now.link in
    let l1 = c.greet.new.self.link in
    let rest = g.met.W.Store.apart _ _ c.greet.ensures.rests in
    let same = same_user _ _ (g.W.Store.view c.args.pass.now) (g.W.Store.view c.args.pass.now) (g.met.W.Store.stays _ _ _ rest) refl in
    let talked : Talked g.W.Store.notes (g.C.Clock.gives c.args.means.now.clock.now) user c.args.key c.match-greet.cause (moment l0 c.args.inbox.now c.greet.new.self.work c.args.self.now.child) (at_desk c.match-greet.self c.match-greet.inbox) =
    elim c.match-greet.branch [
      | in-Ok w ↦ rw (w.self-is, w.inbox-is, w.cause-is)
          (talked_on g.W.Store.notes (g.C.Clock.gives c.args.means.now.clock.now) user c.args.key w.converse-cause.result _ _ _ _ _ _ _ _ _ _ (subst (λ (pid : ℕ). Sends (Ok w.in-Ok.field-0) (bytes_of (greeting pid c.args.key)) l0 l1) c.requires.pid w.in-Ok.ensures.sends) c.greet.ensures.hears (conversed_as _ _ _ _ _ _ _ same w.converse-cause.ensures.talks) w.converse-cause.ensures.cause w.in-Ok.ensures.holds w.converse-cause.ensures.holds)
      | in-Err w ↦ rw (w.self-is, w.inbox-is, w.cause-is)
          (talked_cut g.W.Store.notes (g.C.Clock.gives c.args.means.now.clock.now) user c.args.key w.in-Err.cause _ _ _ _ _ _ (g.met.W.Store.at_rest _) (subst (λ (pid : ℕ). Sends (Err w.in-Err.cause) (bytes_of (greeting pid c.args.key)) l0 l1) c.requires.pid w.in-Err.ensures.sends) c.greet.ensures.hears w.in-Err.ensures.cause w.in-Err.ensures.holds)
    ] in
    let closes = c.close.ensures.closes in (
      closes.0,
      closes.2,
      served_among g.W.Store.notes _ decisions.Ok _ (g.C.Clock.gives c.args.means.now.clock.now) closes.0 l0 c.close.new.self.link _ _ _ _ _ _ _ _ g.met.W.Store.in_turn rest
          (served_inside g.W.Store.notes decisions.Ok user c.args.key (g.C.Clock.gives c.args.means.now.clock.now) c.match-greet.cause closes.0 l0 c.match-greet.self.link c.close.new.self.link _ _ _ _ _ c.match-greet.self.child c.close.new.self.child refl c.requires.met talked closes.1 closes.3)
          (g.met.W.Store.apart _ _ c.close.ensures.rests),
      inside_at closes.0.stage Greeted closes.1 tt,
    )

pub returns-clause-overtaken : goal.returns-clause-overtaken
returns-clause-overtaken g c =
    let generation = (g.W.Store.view c.args.pass.now).generation in
    let over : IsOvertakenBy (g.W.Store.met c.match-greet.self.work) generation c.match-greet.cause =
    elim c.match-greet.branch [
      | in-Ok w ↦ rw (w.self-is, w.cause-is) w.converse-cause.ensures.overtaken
      | in-Err w ↦ rw (w.self-is, w.cause-is) (overtaken_not_broken_off _ generation w.in-Err.cause w.in-Err.ensures.cause.0)
    ] in
    closed_overtaken _ generation decisions.Ok Greeted c.match-greet.cause c.close.result _ _ c.close.ensures.closes
    (subst (λ met. IsOvertakenBy met generation c.match-greet.cause) (sym (g.met.W.Store.met_still _ _ c.close.ensures.rests)) over)

pub converse-cause-requires-clause-admits : goal.converse-cause-requires-clause-admits
converse-cause-requires-clause-admits g c = g.met.W.Store.admits_still _ _ _ c.greet.ensures.rests c.requires.admits

pub returns-clause-admits : goal.returns-clause-admits
returns-clause-admits g c =
    let there : g.W.Store.admits c.match-greet.self.work c.match-greet.pass =
    elim c.match-greet.branch [
      | in-Ok w ↦ rw (w.self-is, w.pass-is) w.converse-cause.ensures.admits
      | in-Err w ↦ rw (w.self-is, w.pass-is) (g.met.W.Store.admits_still _ _ _ c.greet.ensures.rests c.requires.admits)
    ] in
    g.met.W.Store.admits_still _ _ _ c.close.ensures.rests there

pub returns-clause-user : goal.returns-clause-user
returns-clause-user g c =
    let user : User = user_of (g.W.Store.stamp c.args.self.now.work) (g.W.Store.view c.args.pass.now) in
    let same = same_user _ _ (g.W.Store.view c.args.pass.now) (g.W.Store.view c.args.pass.now) (g.met.W.Store.stays _ _ _ (g.met.W.Store.apart _ _ c.greet.ensures.rests)) refl in
    let there : user_of (g.W.Store.stamp c.match-greet.self.work) (g.W.Store.view c.match-greet.pass) ≡ user =
    elim c.match-greet.branch [
      | in-Ok w ↦ rw (w.self-is, w.pass-is) (w.converse-cause.ensures.user ∙ same)
      | in-Err w ↦ rw (w.self-is, w.pass-is) same
    ] in
    same_user _ _ (g.W.Store.view c.match-greet.pass) (g.W.Store.view c.match-greet.pass) (g.met.W.Store.stays _ _ _ (g.met.W.Store.apart _ _ c.close.ensures.rests)) refl ∙ there

pub returns-clause-gate : goal.returns-clause-gate
returns-clause-gate g c =
    let there : HasAsked 0 c.args.self.now.child.told c.match-greet.self.child.told =
    elim c.match-greet.branch [
      | in-Ok w ↦ rw w.self-is (asked_on 0 _ _ _ _ c.greet.ensures.hears.asked w.converse-cause.ensures.talks.hears.asked)
      | in-Err w ↦ rw w.self-is c.greet.ensures.hears.asked
    ] in
    asked_on 0 1 _ _ _ there c.close.ensures.closes.3.hears.asked
