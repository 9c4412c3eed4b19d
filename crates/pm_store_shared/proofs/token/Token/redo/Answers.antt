use Rattle.std.proofs.Common.{rules, ◌≡◌, ℕ, [], sym, ap, ◌∙◌, Option, Some, None, Err, subst, refl}
use Rattle.pm_segment.specs.{Moment.moment, Passes.view_of, pm_query.{Book.generation_of, Calls.{MetLater, PassView, RedoNotes, user_of}}}
use Rattle.pm_store_shared.{specs.{Told.{IsSmall, past_of}, Passes.Among}, proofs.{Calls.{called, rests_again, stale_told, token_admits, token_may_quiet}, Learns.redo_learns, Others.{redo_free, redo_quiet, token_knows_same}, Moving.{admits_laid, laid_admits, laid_generation, whole}, Stores.quiet_own}}
use Rattle.pm_store_shared.proofs.token.Token.redo.Goals as goal

pub redo-result-requires : goal.redo-result-requires
redo-result-requires g c =
    let t = c.in_ok-place.ensures.taken in
    let in_ = subst (λ m. Among c.args.pass.now m.passes) (sym c.self.view_is) c.requires.admits in
    admits_laid _ c.into_store-store.result c.in_ok-place.place c.into_store-store.ensures (token_admits _ _ _ _ t.0 _ _ _ c.self.invariant.2.1 t.2 in_ t.3)

pub of-place-requires : goal.of-place-requires
of-place-requires g c = c.redo-result.ensures.notes.1.commits ∙ c.into_store-store.ensures.staged

pub give-requires-clause-may : goal.give-requires-clause-may
give-requires-clause-may g c =
    let t = c.in_ok-place.ensures.taken in
    let in_ = subst (λ m. Among c.args.pass.now m.passes) (sym c.self.view_is) c.requires.admits in
    let notes = c.redo-result.ensures.notes in
    let stamp : Option ℕ = Some (moment c.into_store-store.result).generation in
    let view = c.redo-result.ensures.view in
    let quiet = redo_quiet (view_of c.args.pass.now) stamp c.redo-result.result notes.0 notes.2 in
    token_may_quiet _ _ _ _ _ t.0 c.in_ok-place.place c.of-place.result c.args.pass.now c.redo-result.new.pass notes.0 _ _ _ c.self.invariant.2.1 t.1 t.2
    (redo_free (view_of c.args.pass.now) stamp c.redo-result.result notes.0 notes.2) quiet (whole notes.0 c.into_store-store.result c.redo-result.new.self c.in_ok-place.place c.of-place.result (quiet_own notes.0 quiet) c.into_store-store.ensures c.of-place.ensures.laid c.of-place.ensures.bare notes.1) in_ t.3 (ap (λ (v : PassView). v.pid) view) (ap (λ (v : PassView). v.generation) view)
    (token_knows_same _ _ _ _ t.0 notes.0 c.in_ok-place.place c.of-place.result _ c.args.pass.now c.redo-result.new.pass c.self.invariant.2.1 t.2 in_ t.3 quiet view (laid_admits _ c.redo-result.new.self c.of-place.result c.of-place.ensures.laid c.redo-result.ensures.admits))

pub returns-clause-notes : goal.returns-clause-notes
returns-clause-notes g c =
    let t = c.in_ok-place.ensures.taken in
    let given = c.give.ensures.given in
    let done = called _ _ _ _ t.0 given.0 _ c.in_ok-place.place c.of-place.result _ _ _ _ c.give.new.seat.me _ _ c.args.pass.now c.redo-result.new.pass _ c.self.view_is (c.give.ensures.same ∙ c.take_whole_for.ensures.same) c.self.invariant.2.1 t.1 given.2 t.2 (whole c.redo-result.ensures.notes.0 c.into_store-store.result c.redo-result.new.self c.in_ok-place.place c.of-place.result (quiet_own _ (redo_quiet (view_of c.args.pass.now) (Some (moment c.into_store-store.result).generation) c.redo-result.result _ c.redo-result.ensures.notes.2)) c.into_store-store.ensures c.of-place.ensures.laid c.of-place.ensures.bare c.redo-result.ensures.notes.1).generation in
    (given.0, done.grew, given.1)

pub returns-clause-admits : goal.returns-clause-admits
returns-clause-admits g c =
    let t = c.in_ok-place.ensures.taken in
    let given = c.give.ensures.given in
    (called _ _ _ _ t.0 given.0 _ c.in_ok-place.place c.of-place.result _ _ _ _ c.give.new.seat.me _ _ c.args.pass.now c.redo-result.new.pass _ c.self.view_is (c.give.ensures.same ∙ c.take_whole_for.ensures.same) c.self.invariant.2.1 t.1 given.2 t.2 (whole c.redo-result.ensures.notes.0 c.into_store-store.result c.redo-result.new.self c.in_ok-place.place c.of-place.result (quiet_own _ (redo_quiet (view_of c.args.pass.now) (Some (moment c.into_store-store.result).generation) c.redo-result.result _ c.redo-result.ensures.notes.2)) c.into_store-store.ensures c.of-place.ensures.laid c.of-place.ensures.bare c.redo-result.ensures.notes.1).generation).among

pub returns-clause-stale : goal.returns-clause-stale
returns-clause-stale g c =
    let t = c.in_ok-place.ensures.taken in
    let given = c.give.ensures.given in
    let done = called _ _ _ _ t.0 given.0 _ c.in_ok-place.place c.of-place.result _ _ _ _ c.give.new.seat.me _ _ c.args.pass.now c.redo-result.new.pass _ c.self.view_is (c.give.ensures.same ∙ c.take_whole_for.ensures.same) c.self.invariant.2.1 t.1 given.2 t.2 (whole c.redo-result.ensures.notes.0 c.into_store-store.result c.redo-result.new.self c.in_ok-place.place c.of-place.result (quiet_own _ (redo_quiet (view_of c.args.pass.now) (Some (moment c.into_store-store.result).generation) c.redo-result.result _ c.redo-result.ensures.notes.2)) c.into_store-store.ensures c.of-place.ensures.laid c.of-place.ensures.bare c.redo-result.ensures.notes.1).generation in
    subst (λ n. MetLater n c.args.pass.now.generation c.redo-result.result) (sym (laid_generation c.redo-result.new.self c.of-place.result c.of-place.ensures.laid) ∙ done.met) c.redo-result.ensures.stale

pub returns-clause-learned : goal.returns-clause-learned
returns-clause-learned g c =
    let t = c.in_ok-place.ensures.taken in
    let given = c.give.ensures.given in
    let done = called _ _ _ _ t.0 given.0 _ c.in_ok-place.place c.of-place.result _ _ _ _ c.give.new.seat.me _ _ c.args.pass.now c.redo-result.new.pass _ c.self.view_is (c.give.ensures.same ∙ c.take_whole_for.ensures.same) c.self.invariant.2.1 t.1 given.2 t.2 (whole c.redo-result.ensures.notes.0 c.into_store-store.result c.redo-result.new.self c.in_ok-place.place c.of-place.result (quiet_own _ (redo_quiet (view_of c.args.pass.now) (Some (moment c.into_store-store.result).generation) c.redo-result.result _ c.redo-result.ensures.notes.2)) c.into_store-store.ensures c.of-place.ensures.laid c.of-place.ensures.bare c.redo-result.ensures.notes.1).generation in
    redo_learns _ _ _ _ t.0 c.into_store-store.result c.in_ok-place.place _ _ _ _ _ c.redo-result.result c.self.view_is c.self.invariant.2.1 t.2 c.into_store-store.ensures c.redo-result.ensures.reason done.grew.first done.past

pub returns-in_err-place-clause-notes : goal.returns-in_err-place-clause-notes
returns-in_err-place-clause-notes g c =
    let in_ = subst (λ m. Among c.args.pass.now m.passes) (sym c.self.view_is) c.requires.admits in
    let stale = stale_told _ _ _ _ _ _ _ _ _ c.args.pass.now _ c.self.view_is c.take_whole_for.ensures.same c.self.invariant.2.1 in_ c.in_err-place.ensures.taken in
    let is : c.from_residual.result ≡ Err c.in_err-place.field-0.0 = search rules in
    ([], stale.grew, subst (λ r. RedoNotes (user_of None (view_of c.args.pass.now)) r []) (sym (is ∙ ap (λ n. Err n) stale.refusal_is)) (tt, refl))

pub returns-in_err-place-clause-stale : goal.returns-in_err-place-clause-stale
returns-in_err-place-clause-stale g c =
    let in_ = subst (λ m. Among c.args.pass.now m.passes) (sym c.self.view_is) c.requires.admits in
    let stale = stale_told _ _ _ _ _ _ _ _ _ c.args.pass.now _ c.self.view_is c.take_whole_for.ensures.same c.self.invariant.2.1 in_ c.in_err-place.ensures.taken in
    let is : c.from_residual.result ≡ Err c.in_err-place.field-0.0 = search rules in
    subst (λ r. MetLater (generation_of (past_of c.take_whole_for.new.seat.me.0)) c.args.pass.now.generation r) (sym (is ∙ ap (λ n. Err n) stale.refusal_is)) (refl, refl, stale.later)

pub invariant_of-self-2 : goal.invariant_of-self-2
invariant_of-self-2 g c =
    let t = c.in_ok-place.ensures.taken in
    let given = c.give.ensures.given in
    let same = c.give.ensures.same ∙ c.take_whole_for.ensures.same in
    (c.self.invariant.0 ∙ sym same, subst IsSmall (sym same) c.self.invariant.1, (c.self.invariant.2.0, rests_again _ _ _ _ _ _ given.0 _ _ _ _ _ c.self.invariant.2.1 t.1 given.2))
