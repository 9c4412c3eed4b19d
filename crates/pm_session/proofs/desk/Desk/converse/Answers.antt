use Rattle.std.proofs.Common.{◌∙◌, refl, subst}
use Rattle.pm_session_exchange.{specs.{pm_query.Calls.User, Answers.IsOvertakenBy}, proofs.MomentLaws.shows_since}
use Rattle.pm_session.proofs.Conversing.{conversing_none, conversing_then, conversed_then, conversing_as, conversed_as}
use Rattle.pm_session.proofs.desk.Desk.converse.Goals as goal

pub loop-init : goal.loop-init
loop-init g c = record {
  talks = conversing_none g.W.Store.notes (g.C.Clock.gives c.args.means.now.clock.now) _ _ (g.met.W.Store.at_rest _);
  admits = c.requires.admits;
  user = refl;
  holds = λ sound. sound;
  empty = c.requires.empty;
}

pub returns-in-Err-clause-talks : goal.returns-in-Err-clause-talks
returns-in-Err-clause-talks g c =
    conversed_then g.W.Store.notes (g.C.Clock.gives c.args.means.now.clock.now) _ c.in-Err.cause _ _ _ g.met.W.Store.in_turn c.loop.invariant.talks
    (conversed_as g.W.Store.notes (g.C.Clock.gives c.args.means.now.clock.now) _ _ c.in-Err.cause _ _ c.loop.invariant.user c.in-Err.ensures.talks)

pub returns-in-Err-clause-cause : goal.returns-in-Err-clause-cause
returns-in-Err-clause-cause g c = shows_since c.in-Err.cause _ _ _ _ c.loop.invariant.talks.passes.later c.in-Err.ensures.cause

pub loop-preserved : goal.loop-preserved
loop-preserved g c = record {
  talks = conversing_then g.W.Store.notes (g.C.Clock.gives c.args.means.now.clock.now) _ _ _ _ g.met.W.Store.in_turn c.loop.invariant.talks (conversing_as g.W.Store.notes (g.C.Clock.gives c.args.means.now.clock.now) _ _ _ _ c.loop.invariant.user c.in_default.ensures.talks);
  admits = c.step.ensures.admits;
  user = c.step.ensures.user ∙ c.loop.invariant.user;
  holds = λ sound. c.in_default.ensures.holds (c.loop.invariant.holds sound);
  empty = c.in_default.ensures.empty;
}

pub returns-in-Err-clause-holds : goal.returns-in-Err-clause-holds
returns-in-Err-clause-holds g c = λ sound. c.in-Err.ensures.holds (c.loop.invariant.holds sound)

pub returns-in-Err-clause-overtaken : goal.returns-in-Err-clause-overtaken
returns-in-Err-clause-overtaken g c = subst (λ (u : User). IsOvertakenBy (g.W.Store.met c.step.new.self.work) u.generation c.in-Err.cause) c.loop.invariant.user c.in-Err.ensures.overtaken
