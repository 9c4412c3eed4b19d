use Rattle.std.proofs.{Common.{◌∙◌, ℕ, [], refl, subst}, lemmas.Result.err_from_is_err_and}
use Rattle.pm_query.{specs.{Calls.{User, user_of}, declared.store.Seen.Seen}, proofs.NotedLaws.{none_behind, none_none, same_user}}
use Rattle.pm_child_life.proofs.AttentionLaws.{hears_none, hears_both, hears_fewer}
use Rattle.pm_session_exchange.{specs.Answers.{OvertakesBy, no_release}, proofs.{Attentions.hears_as, Noted.{wait_ends, wait_done, wait_stops, flush_ends, seen_can, flush_can}, OvertakingLaws.{wait_overtaken, overtaken_not_waiting}}}
use Rattle.pm_session_exchange.proofs.ear.Ear.await_flush.Goals as goal

pub loop-init : goal.loop-init
loop-init g c = record {
  notes = g.met.W.Store.at_rest _;
  admits = c.requires.admits;
  user = refl;
  reached = c.requires.reached;
  hears = hears_none _;
}

-- ---- at the release

pub ask_seen-requires-clause-admits : goal.ask_seen-requires-clause-admits
ask_seen-requires-clause-admits g c = g.met.W.Store.admits_still _ _ _ c.heed_waiting.ensures.rests c.loop.invariant.admits

pub returns-in_err-heed_waiting : goal.returns-in_err-heed_waiting
returns-in_err-heed_waiting g c =
    let p = err_from_is_err_and c.from_residual.result c.from_residual.ensures.1 in
    let user = user_of (g.W.Store.stamp c.args.self.now.work) (g.W.Store.view c.args.pass.now) in
    let rest = g.met.W.Store.apart _ _ c.heed_waiting.ensures.rests in
    record {
      notes = rw (p.1, p.2) ([], none_none _ _ _ _ g.met.W.Store.in_turn c.loop.invariant.notes rest, wait_stops user c.args.front c.in_err-heed_waiting.field-0.0 c.in_err-heed_waiting.ensures.stops.0);
      admits = g.met.W.Store.admits_still _ _ _ c.heed_waiting.ensures.rests c.loop.invariant.admits;
      user = same_user _ _ (g.W.Store.view c.loop.pass) (g.W.Store.view c.loop.pass) (g.met.W.Store.stays _ _ _ rest) refl ∙ c.loop.invariant.user;
      overtaken = rw (p.1, p.2) (overtaken_not_waiting _ _ c.in_err-heed_waiting.field-0.0 c.in_err-heed_waiting.ensures.stops.0);
      hears = hears_both 0 1 _ _ _ c.loop.invariant.hears c.heed_waiting.ensures.hears;
      heeded = rw (p.1, p.2) c.in_err-heed_waiting.ensures.stops.1;
    }

pub returns-in-Ok-Released-clause-notes : goal.returns-in-Ok-Released-clause-notes
returns-in-Ok-Released-clause-notes g c =
    let seen = rw c.in-Ok-Released.field-0-is at c.in-Ok-Released.ensures.notes in
    let rest = g.met.W.Store.apart _ _ c.heed_waiting.ensures.rests in
    let none = none_none _ _ _ _ g.met.W.Store.in_turn c.loop.invariant.notes rest in
    let same = same_user _ _ (g.W.Store.view c.loop.pass) (g.W.Store.view c.loop.pass) (g.met.W.Store.stays _ _ _ rest) refl ∙ c.loop.invariant.user in
    wait_done _ (user_of (g.W.Store.stamp c.heed_waiting.new.self.work) (g.W.Store.view c.loop.pass)) (user_of (g.W.Store.stamp c.args.self.now.work) (g.W.Store.view c.args.pass.now)) _ _ _ _ g.met.W.Store.in_turn same none seen

pub returns-in-Ok-Released-clause-user : goal.returns-in-Ok-Released-clause-user
returns-in-Ok-Released-clause-user g c =
    let rest = g.met.W.Store.apart _ _ c.heed_waiting.ensures.rests in
    same_user _ _ _ _ (g.met.W.Store.stays _ _ _ c.in-Ok-Released.ensures.notes.1 ∙ g.met.W.Store.stays _ _ _ rest) c.ask_seen.ensures.view ∙ c.loop.invariant.user

pub returns-in-Ok-Released-clause-hears : goal.returns-in-Ok-Released-clause-hears
returns-in-Ok-Released-clause-hears g c = hears_as _ _ _ _ c.ask_seen.ensures.child (hears_both 0 1 _ _ _ c.loop.invariant.hears c.heed_waiting.ensures.hears)

pub no_release-requires : goal.no_release-requires
no_release-requires g c = seen_can (user_of (g.W.Store.stamp c.heed_waiting.new.self.work) (g.W.Store.view c.loop.pass)) c.args.front c.in-Err.no c.in-Err.ensures.notes.0 c.in-Err.ensures.notes.2

pub returns-in-Err-clause-notes : goal.returns-in-Err-clause-notes
returns-in-Err-clause-notes g c =
    let rest = g.met.W.Store.apart _ _ c.heed_waiting.ensures.rests in
    let none = none_none _ _ _ _ g.met.W.Store.in_turn c.loop.invariant.notes rest in
    let same = same_user _ _ (g.W.Store.view c.loop.pass) (g.W.Store.view c.loop.pass) (g.met.W.Store.stays _ _ _ rest) refl ∙ c.loop.invariant.user in
    rw c.no_release.ensures (wait_ends _ (user_of (g.W.Store.stamp c.heed_waiting.new.self.work) (g.W.Store.view c.loop.pass)) (user_of (g.W.Store.stamp c.args.self.now.work) (g.W.Store.view c.args.pass.now)) c.args.front c.in-Err.no _ _ _ g.met.W.Store.in_turn same none c.in-Err.ensures.notes)

pub returns-in-Err-clause-user : goal.returns-in-Err-clause-user
returns-in-Err-clause-user g c =
    let rest = g.met.W.Store.apart _ _ c.heed_waiting.ensures.rests in
    same_user _ _ _ _ (g.met.W.Store.stays _ _ _ c.in-Err.ensures.notes.1 ∙ g.met.W.Store.stays _ _ _ rest) c.ask_seen.ensures.view ∙ c.loop.invariant.user

pub returns-in-Err-clause-overtaken : goal.returns-in-Err-clause-overtaken
returns-in-Err-clause-overtaken g c =
    let met = g.W.Store.met c.ask_seen.new.self.work in
    rw c.no_release.ensures (subst (λ (u : User). OvertakesBy met u.generation (no_release c.in-Err.no)) c.loop.invariant.user (wait_overtaken Seen met _ c.in-Err.no c.in-Err.ensures.stale))

pub returns-in-Err-clause-hears : goal.returns-in-Err-clause-hears
returns-in-Err-clause-hears g c = hears_as _ _ _ _ c.ask_seen.ensures.child (hears_both 0 1 _ _ _ c.loop.invariant.hears c.heed_waiting.ensures.hears)

-- ---- at the flush

pub ask_flush-requires : goal.ask_flush-requires
ask_flush-requires g c = g.met.W.Store.admits_still _ _ _ c.heed_waiting-in-loop.ensures.rests c.ask_seen.ensures.admits

pub returns-in_err-heed_waiting-2-clause-notes : goal.returns-in_err-heed_waiting-2-clause-notes
returns-in_err-heed_waiting-2-clause-notes g c =
    let seen = rw c.in-Ok-NotFlushed.field-0-is at c.in-Ok-NotFlushed.ensures.notes in
    let both = seen.2 in
    let p = err_from_is_err_and c.from_residual-in_err-heed_waiting-2.result c.from_residual-in_err-heed_waiting-2.ensures.1 in
    let user = user_of (g.W.Store.stamp c.args.self.now.work) (g.W.Store.view c.args.pass.now) in
    let rest = g.met.W.Store.apart _ _ c.heed_waiting.ensures.rests in
    let later = g.met.W.Store.apart _ _ c.heed_waiting-in-loop.ensures.rests in
    let none = none_none _ _ _ _ g.met.W.Store.in_turn c.loop.invariant.notes rest in
    rw (p.1, p.2) ([], none_none _ _ _ _ g.met.W.Store.in_turn (none_behind _ _ _ _ g.met.W.Store.in_turn none (seen.0, seen.1, both.1)) later, wait_stops user c.args.front c.in_err-heed_waiting-2.field-0.0 c.in_err-heed_waiting-2.ensures.stops.0)

pub returns-in_err-heed_waiting-2-clause-admits : goal.returns-in_err-heed_waiting-2-clause-admits
returns-in_err-heed_waiting-2-clause-admits g c = g.met.W.Store.admits_still _ _ _ c.heed_waiting-in-loop.ensures.rests c.ask_seen.ensures.admits

pub returns-in_err-heed_waiting-2-clause-user : goal.returns-in_err-heed_waiting-2-clause-user
returns-in_err-heed_waiting-2-clause-user g c =
    let seen = rw c.in-Ok-NotFlushed.field-0-is at c.in-Ok-NotFlushed.ensures.notes in
    let rest = g.met.W.Store.apart _ _ c.heed_waiting.ensures.rests in
    let later = g.met.W.Store.apart _ _ c.heed_waiting-in-loop.ensures.rests in
    same_user _ _ _ _ (g.met.W.Store.stays _ _ _ later ∙ g.met.W.Store.stays _ _ _ seen.1 ∙ g.met.W.Store.stays _ _ _ rest) c.ask_seen.ensures.view ∙ c.loop.invariant.user

pub returns-in_err-heed_waiting-2-clause-overtaken : goal.returns-in_err-heed_waiting-2-clause-overtaken
returns-in_err-heed_waiting-2-clause-overtaken g c =
    let p = err_from_is_err_and c.from_residual-in_err-heed_waiting-2.result c.from_residual-in_err-heed_waiting-2.ensures.1 in
    rw (p.1, p.2) (overtaken_not_waiting _ _ c.in_err-heed_waiting-2.field-0.0 c.in_err-heed_waiting-2.ensures.stops.0)

pub returns-in_err-heed_waiting-2-clause-hears : goal.returns-in_err-heed_waiting-2-clause-hears
returns-in_err-heed_waiting-2-clause-hears g c =
    let first = hears_as _ _ _ _ c.ask_seen.ensures.child (hears_both 0 1 _ _ _ c.loop.invariant.hears c.heed_waiting.ensures.hears) in
    hears_fewer 1 1 _ _ (hears_both 1 1 _ _ _ first c.heed_waiting-in-loop.ensures.hears)

pub no_release-requires-in-Err-ask_flush : goal.no_release-requires-in-Err-ask_flush
no_release-requires-in-Err-ask_flush g c = flush_can (user_of (g.W.Store.stamp c.heed_waiting-in-loop.new.self.work) (g.W.Store.view c.ask_seen.new.pass)) c.in-Err-ask_flush.refusal c.in-Err-ask_flush.ensures.notes.0 c.in-Err-ask_flush.ensures.notes.2

pub returns-in-Err-ask_flush-clause-notes : goal.returns-in-Err-ask_flush-clause-notes
returns-in-Err-ask_flush-clause-notes g c =
    let seen = rw c.in-Ok-NotFlushed.field-0-is at c.in-Ok-NotFlushed.ensures.notes in
    let both = seen.2 in
    let user = user_of (g.W.Store.stamp c.args.self.now.work) (g.W.Store.view c.args.pass.now) in
    let rest = g.met.W.Store.apart _ _ c.heed_waiting.ensures.rests in
    let later = g.met.W.Store.apart _ _ c.heed_waiting-in-loop.ensures.rests in
    let none = none_none _ _ _ _ g.met.W.Store.in_turn c.loop.invariant.notes rest in
    let still = none_none _ _ _ _ g.met.W.Store.in_turn (none_behind _ _ _ _ g.met.W.Store.in_turn none (seen.0, seen.1, both.1)) later in
    let same = same_user _ _ _ _ (g.met.W.Store.stays _ _ _ later ∙ g.met.W.Store.stays _ _ _ seen.1 ∙ g.met.W.Store.stays _ _ _ rest) c.ask_seen.ensures.view ∙ c.loop.invariant.user in
    rw c.no_release-in-Err-ask_flush.ensures (flush_ends _ (user_of (g.W.Store.stamp c.heed_waiting-in-loop.new.self.work) (g.W.Store.view c.ask_seen.new.pass)) user c.args.front c.in-Err-ask_flush.refusal _ _ _ g.met.W.Store.in_turn same
    still c.in-Err-ask_flush.ensures.notes)

pub returns-in-Err-ask_flush-clause-user : goal.returns-in-Err-ask_flush-clause-user
returns-in-Err-ask_flush-clause-user g c =
    let seen = rw c.in-Ok-NotFlushed.field-0-is at c.in-Ok-NotFlushed.ensures.notes in
    let rest = g.met.W.Store.apart _ _ c.heed_waiting.ensures.rests in
    let later = g.met.W.Store.apart _ _ c.heed_waiting-in-loop.ensures.rests in
    same_user _ _ _ _ (g.met.W.Store.stays _ _ _ c.in-Err-ask_flush.ensures.notes.1 ∙ g.met.W.Store.stays _ _ _ later ∙ g.met.W.Store.stays _ _ _ seen.1 ∙ g.met.W.Store.stays _ _ _ rest) (c.ask_flush.ensures.view ∙ c.ask_seen.ensures.view) ∙ c.loop.invariant.user

pub returns-in-Err-ask_flush-clause-overtaken : goal.returns-in-Err-ask_flush-clause-overtaken
returns-in-Err-ask_flush-clause-overtaken g c =
    let seen = rw c.in-Ok-NotFlushed.field-0-is at c.in-Ok-NotFlushed.ensures.notes in
    let rest = g.met.W.Store.apart _ _ c.heed_waiting.ensures.rests in
    let later = g.met.W.Store.apart _ _ c.heed_waiting-in-loop.ensures.rests in
    let same = same_user _ _ _ _ (g.met.W.Store.stays _ _ _ later ∙ g.met.W.Store.stays _ _ _ seen.1 ∙ g.met.W.Store.stays _ _ _ rest) c.ask_seen.ensures.view ∙ c.loop.invariant.user in
    let met = g.W.Store.met c.ask_flush.new.self.work in
    rw c.no_release-in-Err-ask_flush.ensures (subst (λ (u : User). OvertakesBy met u.generation (no_release c.in-Err-ask_flush.refusal)) same (wait_overtaken ℕ met _ c.in-Err-ask_flush.refusal c.in-Err-ask_flush.ensures.stale))

pub returns-in-Err-ask_flush-clause-hears : goal.returns-in-Err-ask_flush-clause-hears
returns-in-Err-ask_flush-clause-hears g c =
    let first = hears_as _ _ _ _ c.ask_seen.ensures.child (hears_both 0 1 _ _ _ c.loop.invariant.hears c.heed_waiting.ensures.hears) in
    hears_as _ _ _ _ c.ask_flush.ensures.child (hears_fewer 1 1 _ _ (hears_both 1 1 _ _ _ first c.heed_waiting-in-loop.ensures.hears))

pub loop-preserved : goal.loop-preserved
loop-preserved g c =
    let seen = rw c.in-Ok-NotFlushed.field-0-is at c.in-Ok-NotFlushed.ensures.notes in
    let both = seen.2 in
    let rest = g.met.W.Store.apart _ _ c.heed_waiting.ensures.rests in
    let later = g.met.W.Store.apart _ _ c.heed_waiting-in-loop.ensures.rests in
    let none = none_none _ _ _ _ g.met.W.Store.in_turn c.loop.invariant.notes rest in
    let still = none_none _ _ _ _ g.met.W.Store.in_turn (none_behind _ _ _ _ g.met.W.Store.in_turn none (seen.0, seen.1, both.1)) later in
    let first = hears_as _ _ _ _ c.ask_seen.ensures.child (hears_fewer 0 1 _ _ (hears_both 0 1 _ _ _ c.loop.invariant.hears c.heed_waiting.ensures.hears)) in
    record {
      notes = none_behind _ _ _ _ g.met.W.Store.in_turn still c.in_default.ensures.notes;
      admits = c.ask_flush.ensures.admits;
      user = same_user _ _ _ _ (g.met.W.Store.stays _ _ _ c.in_default.ensures.notes.1 ∙ g.met.W.Store.stays _ _ _ later ∙ g.met.W.Store.stays _ _ _ seen.1 ∙ g.met.W.Store.stays _ _ _ rest) (c.ask_flush.ensures.view ∙ c.ask_seen.ensures.view) ∙ c.loop.invariant.user;
      reached = rw (c.ask_flush.ensures.view, c.ask_seen.ensures.view) c.loop.invariant.reached;
      hears = hears_as _ _ _ _ c.ask_flush.ensures.child (hears_fewer 0 1 _ _ (hears_both 0 1 _ _ _ first c.heed_waiting-in-loop.ensures.hears));
    }
