use Rattle.std.proofs.Common.{rules, ◌≡◌, [], sym, ap, ◌∙◌, None, Some, Err, subst, refl}
use Rattle.pm_segment.specs.{pm_store_apart.declared.commits.Commits.TheVariants.Staged, Passes.view_of, pm_query.{Book.generation_of, Calls.{MetLater, user_of}}}
use Rattle.pm_store_shared.{specs.{Passes.Among, Piecewise.BeginsOrNot, Stands.{Knows, Stands}, Told.{IsSmall, past_of}}, proofs.{Calls.{called, gave_unchanged, kept_told, rests_again, stale_told, token_admits, token_may_quiet}, Makings.{begins_free, begins_quiet, begun_makes}, Moving.{holding, with_disk}, Others.token_knows_same, Stores.quiet_own, Unchanged.may_rest}}
use Rattle.pm_store_shared.proofs.token.Token.begin_pieces.Goals as goal

pub returns-in_err-place-clause-notes : goal.returns-in_err-place-clause-notes
returns-in_err-place-clause-notes g c =
    let in_ = subst (λ m. Among c.args.pass.now m.passes) (sym c.self.view_is) c.requires.admits in
    let stale = stale_told _ _ _ _ _ _ _ _ _ c.args.pass.now _ c.self.view_is c.take_whole_for.ensures.same c.self.invariant.2.1 in_ c.in_err-place.ensures.taken in
    let is : c.from_residual.result ≡ Err c.in_err-place.field-0.0 = search rules in
    ([], stale.grew, subst (λ r. BeginsOrNot (user_of None (view_of c.args.pass.now)) r []) (sym (is ∙ ap (λ n. Err n) stale.refusal_is)) (tt, refl))

pub returns-in_err-place-clause-stale : goal.returns-in_err-place-clause-stale
returns-in_err-place-clause-stale g c =
    let in_ = subst (λ m. Among c.args.pass.now m.passes) (sym c.self.view_is) c.requires.admits in
    let stale = stale_told _ _ _ _ _ _ _ _ _ c.args.pass.now _ c.self.view_is c.take_whole_for.ensures.same c.self.invariant.2.1 in_ c.in_err-place.ensures.taken in
    let is : c.from_residual.result ≡ Err c.in_err-place.field-0.0 = search rules in
    subst (λ r. MetLater (generation_of (past_of c.take_whole_for.new.seat.me.0)) c.args.pass.now.generation r) (sym (is ∙ ap (λ n. Err n) stale.refusal_is)) (refl, refl, stale.later)

pub give_unchanged-requires-clause-may : goal.give_unchanged-requires-clause-may
give_unchanged-requires-clause-may g c =
    let t = c.in_ok-place.ensures.taken in may_rest Stands Knows _ _ _ _ t.0 _ _ _ _ c.self.invariant.2.1 t.1 t.2

pub returns-then-not-may_begin-clause-notes : goal.returns-then-not-may_begin-clause-notes
returns-then-not-may_begin-clause-notes g c =
    let t = c.in_ok-place.ensures.taken in
    let given = c.give_unchanged.ensures.given in
    let was = gave_unchanged _ _ _ _ _ given.0 _ _ _ _ c.self.invariant.2.1 t.1 given.1 given.2 in
    let kept = kept_told _ _ _ _ t.0 c.in_ok-place.place _ _ _ c.give_unchanged.new.seat.me _ c.self.view_is (c.give_unchanged.ensures.same ∙ c.take_whole_for.ensures.same) c.self.invariant.2.1 was t.2 in
    ([], kept.grew, refl)

pub begin_pieces-begun-requires-clause-admits : goal.begin_pieces-begun-requires-clause-admits
begin_pieces-begun-requires-clause-admits g c =
    let t = c.in_ok-place.ensures.taken in
    let in_ = subst (λ m. Among c.args.pass.now m.passes) (sym c.self.view_is) c.requires.admits in
    token_admits _ _ _ _ t.0 _ _ _ c.self.invariant.2.1 t.2 in_ t.3

pub give-requires-clause-may : goal.give-requires-clause-may
give-requires-clause-may g c =
    let t = c.in_ok-place.ensures.taken in
    let in_ = subst (λ m. Among c.args.pass.now m.passes) (sym c.self.view_is) c.requires.admits in
    let x = c.in_ok-place.place in
    let call = c.begin_pieces-begun in
    let notes = call.ensures.notes in
    let told = c.told-result in
    let generation = Some x.apart.generation in
    let quiet = begins_quiet (view_of c.args.pass.now) generation call.result notes.0 notes.2 in
    let moves = holding notes.0 x call.new.self c.in-Some.disk call.new.disk told.result.1 c.in-Some.is (quiet_own notes.0 quiet) (notes.1 Staged) call.ensures.rests call.ensures.home (begun_makes call.new.disk call.new.self call.result told.result.0 told.result.1 told.ensures call.ensures.made) in
    token_may_quiet _ _ _ _ _ t.0 x (with_disk call.new.self call.new.disk told.result.1) c.args.pass.now c.args.pass.now notes.0 _ _ _ c.self.invariant.2.1 t.1 t.2
    (begins_free (view_of c.args.pass.now) generation call.result told.result.0 told.result.1 notes.0 told.ensures notes.2) quiet moves in_ t.3 refl refl
    (token_knows_same _ _ _ _ t.0 notes.0 x (with_disk call.new.self call.new.disk told.result.1) _ c.args.pass.now c.args.pass.now c.self.invariant.2.1 t.2 in_ t.3 quiet refl call.ensures.admits)

pub invariant_of-self-2 : goal.invariant_of-self-2
invariant_of-self-2 g c =
    let t = c.in_ok-place.ensures.taken in
    let given = c.give.ensures.given in
    let same = c.give.ensures.same ∙ c.take_whole_for.ensures.same in
    (c.self.invariant.0 ∙ sym same, subst IsSmall (sym same) c.self.invariant.1, (c.self.invariant.2.0, rests_again _ _ _ _ _ _ given.0 _ _ _ _ _ c.self.invariant.2.1 t.1 given.2))

pub returns-clause-notes : goal.returns-clause-notes
returns-clause-notes g c =
    let t = c.in_ok-place.ensures.taken in
    let given = c.give.ensures.given in
    let call = c.begin_pieces-begun in
    let done = called _ _ _ _ t.0 given.0 None c.in_ok-place.place (with_disk call.new.self call.new.disk c.told-result.result.1) _ _ _ _ c.give.new.seat.me _ _ c.args.pass.now c.args.pass.now _ c.self.view_is (c.give.ensures.same ∙ c.take_whole_for.ensures.same) c.self.invariant.2.1 t.1 given.2 t.2 (call.ensures.notes.1 Staged).generation in
    (given.0, done.grew, given.1)

pub returns-clause-admits : goal.returns-clause-admits
returns-clause-admits g c =
    let t = c.in_ok-place.ensures.taken in
    let given = c.give.ensures.given in
    let call = c.begin_pieces-begun in
    (called _ _ _ _ t.0 given.0 None c.in_ok-place.place (with_disk call.new.self call.new.disk c.told-result.result.1) _ _ _ _ c.give.new.seat.me _ _ c.args.pass.now c.args.pass.now _ c.self.view_is (c.give.ensures.same ∙ c.take_whole_for.ensures.same) c.self.invariant.2.1 t.1 given.2 t.2 (call.ensures.notes.1 Staged).generation).among
