use Rattle.std.{proofs.Common.{rules, ◌≡◌, [], sym, ap, ◌∙◌, None, Err, subst, refl}, specs.Prelude.ok_or}
use Rattle.pm_segment.specs.{Passes.view_of, pm_query.{declared.store.StoreNo.TheVariants.NoMemory, Book.generation_of, Calls.{FlushNotes, MetLater, user_of}}}
use Rattle.pm_store_shared.{specs.{Stands.{Knows, Stands}, Told.past_of, Passes.Among}, proofs.{Calls.{gave_unchanged, kept_told, stale_told}, Learns.{told_learns, told_notes, told_stale}, Unchanged.may_rest}}
use Rattle.pm_store_shared.proofs.token.Token.flushed_by_store.Goals as goal

pub give_unchanged-requires-clause-may : goal.give_unchanged-requires-clause-may
give_unchanged-requires-clause-may g c =
    let t = c.in_ok-place.ensures.taken in may_rest Stands Knows _ _ _ _ t.0 _ _ _ _ c.self.invariant.2.1 t.1 t.2

pub returns-clause-notes : goal.returns-clause-notes
returns-clause-notes g c =
    let t = c.in_ok-place.ensures.taken in
    let given = c.give_unchanged.ensures.given in
    let was = gave_unchanged _ _ _ _ _ given.0 _ _ _ _ c.self.invariant.2.1 t.1 given.1 given.2 in
    let kept = kept_told _ _ _ _ t.0 c.in_ok-place.place _ _ _ c.give_unchanged.new.seat.me _ c.self.view_is (c.give_unchanged.ensures.same ∙ c.take_for.ensures.same) c.self.invariant.2.1 was t.2 in
    let user = user_of None (view_of c.args.pass.now) in
    ([], kept.grew, subst (λ r. FlushNotes user r []) (sym c.ok_or.ensures.value) (told_notes user c.flushed-flushed.result))

pub returns-clause-admits : goal.returns-clause-admits
returns-clause-admits g c =
    let t = c.in_ok-place.ensures.taken in
    let given = c.give_unchanged.ensures.given in
    let was = gave_unchanged _ _ _ _ _ given.0 _ _ _ _ c.self.invariant.2.1 t.1 given.1 given.2 in
    let kept = kept_told _ _ _ _ t.0 c.in_ok-place.place _ _ _ c.give_unchanged.new.seat.me _ c.self.view_is (c.give_unchanged.ensures.same ∙ c.take_for.ensures.same) c.self.invariant.2.1 was t.2 in
    subst (Among c.args.pass.now) (sym kept.passes) c.requires.admits

pub returns-clause-stale : goal.returns-clause-stale
returns-clause-stale g c =
    subst (MetLater (generation_of (past_of c.give_unchanged.new.seat.me.0)) c.args.pass.now.generation) (sym c.ok_or.ensures.value) (told_stale _ _ c.flushed-flushed.result)

pub returns-clause-learned : goal.returns-clause-learned
returns-clause-learned g c =
    let t = c.in_ok-place.ensures.taken in
    let given = c.give_unchanged.ensures.given in
    let was = gave_unchanged _ _ _ _ _ given.0 _ _ _ _ c.self.invariant.2.1 t.1 given.1 given.2 in
    let kept = kept_told _ _ _ _ t.0 c.in_ok-place.place _ _ _ c.give_unchanged.new.seat.me _ c.self.view_is (c.give_unchanged.ensures.same ∙ c.take_for.ensures.same) c.self.invariant.2.1 was t.2 in
    told_learns _ _ _ _ t.0 c.in_ok-place.place _ _ _ _ _ c.ok_or.result c.self.view_is c.self.invariant.2.1 t.2 (c.ok_or.ensures.value ∙ ap (λ o. ok_or o NoMemory) c.flushed-flushed.ensures) kept.grew.first kept.past

pub returns-in_err-place-clause-notes : goal.returns-in_err-place-clause-notes
returns-in_err-place-clause-notes g c =
    let in_ = subst (λ m. Among c.args.pass.now m.passes) (sym c.self.view_is) c.requires.admits in
    let stale = stale_told _ _ _ _ _ _ _ _ _ c.args.pass.now _ c.self.view_is c.take_for.ensures.same c.self.invariant.2.1 in_ c.in_err-place.ensures.taken in
    let is : c.from_residual.result ≡ Err c.in_err-place.field-0.0 = search rules in
    ([], stale.grew, subst (λ r. FlushNotes (user_of None (view_of c.args.pass.now)) r []) (sym (is ∙ ap (λ n. Err n) stale.refusal_is)) (tt, refl))

pub returns-in_err-place-clause-stale : goal.returns-in_err-place-clause-stale
returns-in_err-place-clause-stale g c =
    let in_ = subst (λ m. Among c.args.pass.now m.passes) (sym c.self.view_is) c.requires.admits in
    let stale = stale_told _ _ _ _ _ _ _ _ _ c.args.pass.now _ c.self.view_is c.take_for.ensures.same c.self.invariant.2.1 in_ c.in_err-place.ensures.taken in
    let is : c.from_residual.result ≡ Err c.in_err-place.field-0.0 = search rules in
    subst (λ r. MetLater (generation_of (past_of c.take_for.new.seat.me.0)) c.args.pass.now.generation r) (sym (is ∙ ap (λ n. Err n) stale.refusal_is)) (refl, refl, stale.later)
