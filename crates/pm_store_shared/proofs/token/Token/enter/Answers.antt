use Rattle.std.proofs.Common.{◌∙◌, subst, Some}
use Rattle.pm_query.specs.Calls.{MetAnother}
use Rattle.pm_store_shared.proofs.{Calls.{enter_own, entered_among, given_is, grew_by, met_behind, past_goes_on, passes_are, token_may_enter}, Moving.{grown, grown_generation, with_apart}}
use Rattle.pm_store_shared.proofs.token.Token.enter.Goals as goal

pub give-requires-clause-may : goal.give-requires-clause-may
give-requires-clause-may g c =
    let t = c.take-place.ensures.taken in
    let notes = c.enter-result.ensures.notes in
    token_may_enter _ _ _ _ t.0 c.take-place.result (with_apart c.enter-result.new.self c.take-place.result) c.enter-result.result c.args.pid c.args.generation notes.0 _ _ _ c.self.invariant.2.1 t.1 t.2 notes.2 (grown c.self.invariant.2.0 notes.0 c.take-place.result c.enter-result.new.self (enter_own (Some c.take-place.result.apart.generation) c.args.pid c.args.generation c.enter-result.result notes.0 notes.2) notes.1) c.enter-result.ensures.admits c.enter-result.ensures.view

pub returns-clause-notes : goal.returns-clause-notes
returns-clause-notes g c =
    let t = c.take-place.ensures.taken in
    let given = c.give.ensures.given in
    (given.0, grew_by _ _ _ _ _ _ _ _ given.0 _ c.give.new.seat.me _ c.self.view_is (c.give.ensures.same ∙ c.take-place.ensures.same) c.self.invariant.2.1 (given_is _ _ _ _ _ _ given.0 _ _ _ _ _ _ c.self.invariant.2.1 t.1 given.2) (past_goes_on _ _ _ _ t.0 c.take-place.result _ c.self.invariant.2.1 t.2), given.1)

pub returns-clause-admits : goal.returns-clause-admits
returns-clause-admits g c =
    let t = c.take-place.ensures.taken in
    let given = c.give.ensures.given in
    entered_among c.enter-result.result _ _ (passes_are _ _ _ _ c.give.new.seat.me (given_is _ _ _ _ _ _ given.0 _ _ _ _ _ _ c.self.invariant.2.1 t.1 given.2))

pub returns-clause-stale : goal.returns-clause-stale
returns-clause-stale g c =
    let t = c.take-place.ensures.taken in
    let given = c.give.ensures.given in
    let notes = c.enter-result.ensures.notes in
    subst (λ n. MetAnother n c.args.generation c.enter-result.result)
    (met_behind _ _ _ _ _ t.0 given.0 _ c.take-place.result (with_apart c.enter-result.new.self c.take-place.result) _ _ c.give.new.seat.me _ _ c.self.invariant.2.1 t.1 given.2 t.2 (grown_generation c.self.invariant.2.0 notes.0 _ _ notes.1)) c.enter-result.ensures.stale
