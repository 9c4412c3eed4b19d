use Rattle.std.proofs.Common.{rules, ◌≡◌, ℕ, [], sym, ap, ◌∙◌, Option, Some, None, Err, subst, refl}
use Rattle.pm_segment.specs.{Passes.view_of, pm_query.{Book.generation_of, Calls.{MetLater, PassView, SeenNotes, user_of}}}
use Rattle.pm_store_shared.{specs.{Told.past_of, Passes.Among}, proofs.{Calls.{called, stale_told, token_admits, token_may_quiet}, Moving.{grown, grown_generation, with_apart}, Others.{seen_free, seen_quiet, token_knows_same}, Stores.quiet_own}}
use Rattle.pm_store_shared.proofs.token.Token.seen.Goals as goal

pub seen-result-requires-clause-admits : goal.seen-result-requires-clause-admits
seen-result-requires-clause-admits g c =
    let t = c.in_ok-place.ensures.taken in
    let in_ = subst (λ m. Among c.args.pass.now m.passes) (sym c.self.view_is) c.requires.admits in
    token_admits _ _ _ _ t.0 _ _ _ c.self.invariant.2.1 t.2 in_ t.3

pub give-requires-clause-may : goal.give-requires-clause-may
give-requires-clause-may g c =
    let t = c.in_ok-place.ensures.taken in
    let in_ = subst (λ m. Among c.args.pass.now m.passes) (sym c.self.view_is) c.requires.admits in
    let notes = c.seen-result.ensures.notes in
    let stamp : Option ℕ = Some c.in_ok-place.place.apart.generation in
    let view = c.seen-result.ensures.view in
    let quiet = seen_quiet (view_of c.args.pass.now) stamp c.args.front c.seen-result.result notes.0 notes.2 in
    token_may_quiet _ _ _ _ _ t.0 c.in_ok-place.place (with_apart c.seen-result.new.self c.in_ok-place.place) c.args.pass.now c.seen-result.new.pass notes.0 _ _ _ c.self.invariant.2.1 t.1 t.2
    (seen_free (view_of c.args.pass.now) stamp c.args.front c.seen-result.result notes.0 notes.2) quiet (grown c.self.invariant.2.0 notes.0 c.in_ok-place.place c.seen-result.new.self (quiet_own notes.0 quiet) notes.1) in_ t.3 (ap (λ (v : PassView). v.pid) view) (ap (λ (v : PassView). v.generation) view)
    (token_knows_same _ _ _ _ t.0 notes.0 c.in_ok-place.place (with_apart c.seen-result.new.self c.in_ok-place.place) _ c.args.pass.now c.seen-result.new.pass c.self.invariant.2.1 t.2 in_ t.3 quiet view c.seen-result.ensures.admits)

pub returns-clause-notes : goal.returns-clause-notes
returns-clause-notes g c =
    let t = c.in_ok-place.ensures.taken in
    let given = c.give.ensures.given in
    let done = called _ _ _ _ t.0 given.0 _ c.in_ok-place.place (with_apart c.seen-result.new.self c.in_ok-place.place) _ _ _ _ c.give.new.seat.me _ _ c.args.pass.now c.seen-result.new.pass _ c.self.view_is (c.give.ensures.same ∙ c.take_for.ensures.same) c.self.invariant.2.1 t.1 given.2 t.2 (grown_generation c.self.invariant.2.0 _ _ _ c.seen-result.ensures.notes.1) in
    (given.0, done.grew, given.1)

pub returns-clause-admits : goal.returns-clause-admits
returns-clause-admits g c =
    let t = c.in_ok-place.ensures.taken in
    let given = c.give.ensures.given in
    (called _ _ _ _ t.0 given.0 _ c.in_ok-place.place (with_apart c.seen-result.new.self c.in_ok-place.place) _ _ _ _ c.give.new.seat.me _ _ c.args.pass.now c.seen-result.new.pass _ c.self.view_is (c.give.ensures.same ∙ c.take_for.ensures.same) c.self.invariant.2.1 t.1 given.2 t.2 (grown_generation c.self.invariant.2.0 _ _ _ c.seen-result.ensures.notes.1)).among

pub returns-clause-stale : goal.returns-clause-stale
returns-clause-stale g c =
    let t = c.in_ok-place.ensures.taken in
    let given = c.give.ensures.given in
    let done = called _ _ _ _ t.0 given.0 _ c.in_ok-place.place (with_apart c.seen-result.new.self c.in_ok-place.place) _ _ _ _ c.give.new.seat.me _ _ c.args.pass.now c.seen-result.new.pass _ c.self.view_is (c.give.ensures.same ∙ c.take_for.ensures.same) c.self.invariant.2.1 t.1 given.2 t.2 (grown_generation c.self.invariant.2.0 _ _ _ c.seen-result.ensures.notes.1) in
    subst (λ n. MetLater n c.args.pass.now.generation c.seen-result.result) done.met c.seen-result.ensures.stale

pub returns-in_err-place-clause-notes : goal.returns-in_err-place-clause-notes
returns-in_err-place-clause-notes g c =
    let in_ = subst (λ m. Among c.args.pass.now m.passes) (sym c.self.view_is) c.requires.admits in
    let stale = stale_told _ _ _ _ _ _ _ _ _ c.args.pass.now _ c.self.view_is c.take_for.ensures.same c.self.invariant.2.1 in_ c.in_err-place.ensures.taken in
    let is : c.from_residual.result ≡ Err c.in_err-place.field-0.0 = search rules in
    ([], stale.grew, subst (λ r. SeenNotes (user_of None (view_of c.args.pass.now)) c.args.front r []) (sym (is ∙ ap (λ n. Err n) stale.refusal_is)) (tt, refl))

pub returns-in_err-place-clause-stale : goal.returns-in_err-place-clause-stale
returns-in_err-place-clause-stale g c =
    let in_ = subst (λ m. Among c.args.pass.now m.passes) (sym c.self.view_is) c.requires.admits in
    let stale = stale_told _ _ _ _ _ _ _ _ _ c.args.pass.now _ c.self.view_is c.take_for.ensures.same c.self.invariant.2.1 in_ c.in_err-place.ensures.taken in
    let is : c.from_residual.result ≡ Err c.in_err-place.field-0.0 = search rules in
    subst (λ r. MetLater (generation_of (past_of c.take_for.new.seat.me.0)) c.args.pass.now.generation r) (sym (is ∙ ap (λ n. Err n) stale.refusal_is)) (refl, refl, stale.later)
