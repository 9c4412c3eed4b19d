use Rattle.std.proofs.Common.{rules, ◌≡◌, false, [], sym, ap, ◌∙◌, Option, None, Some, Err, subst, refl}
use Rattle.pm_segment.specs.{pm_store_apart.declared.commits.Commits.TheVariants.Staged, Passes.view_of, pm_query.{Book.generation_of, Calls.{MetLater, user_of}}}
use Rattle.pm_store_shared.{specs.{Passes.Among, Piecewise.MakesOrNot, Stands.{Knows, Stands}, Told.{IsSmall, past_of}}, proofs.{Calls.{called, gave_unchanged, kept_told, rests_again, stale_told, token_admits, token_may_quiet}, Flushing.grew_then, Moving.{PlaceMoves, answered, lends_bare, with_disk, without_disk}, Others.{checkpoint_free, checkpoint_quiet, token_knows_same}, Stores.quiet_own, Unchanged.may_rest}}
use Rattle.pm_log.specs.Half.{Half}
use Rattle.pm_store_shared.proofs.token.Token.make_piece.Goals as goal

pub returns-in_err-place-clause-notes : goal.returns-in_err-place-clause-notes
returns-in_err-place-clause-notes g c =
    let in_ = subst (λ m. Among c.args.pass.now m.passes) (sym c.self.view_is) c.requires.admits in
    let stale = stale_told _ _ _ _ _ _ _ _ _ c.args.pass.now _ c.self.view_is c.take_whole_for.ensures.same c.self.invariant.2.1 in_ c.in_err-place.ensures.taken in
    let is : c.from_residual.result ≡ Err c.in_err-place.field-0.0 = search rules in
    ([], stale.grew, subst (λ r. MakesOrNot (user_of None (view_of c.args.pass.now)) r []) (sym (is ∙ ap (λ n. Err n) stale.refusal_is)) (tt, refl))

pub returns-in_err-place-clause-stale : goal.returns-in_err-place-clause-stale
returns-in_err-place-clause-stale g c =
    let in_ = subst (λ m. Among c.args.pass.now m.passes) (sym c.self.view_is) c.requires.admits in
    let stale = stale_told _ _ _ _ _ _ _ _ _ c.args.pass.now _ c.self.view_is c.take_whole_for.ensures.same c.self.invariant.2.1 in_ c.in_err-place.ensures.taken in
    let is : c.from_residual.result ≡ Err c.in_err-place.field-0.0 = search rules in
    subst (λ r. MetLater (generation_of (past_of c.take_whole_for.new.seat.me.0)) c.args.pass.now.generation r) (sym (is ∙ ap (λ n. Err n) stale.refusal_is)) (refl, refl, stale.later)

pub give_unchanged-requires-clause-may : goal.give_unchanged-requires-clause-may
give_unchanged-requires-clause-may g c =
    let t = c.in_ok-place.ensures.taken in may_rest Stands Knows _ _ _ _ t.0 _ _ _ _ c.self.invariant.2.1 t.1 t.2

pub returns-then-is_none-clause-notes : goal.returns-then-is_none-clause-notes
returns-then-is_none-clause-notes g c =
    let t = c.in_ok-place.ensures.taken in
    let given = c.give_unchanged.ensures.given in
    let was = gave_unchanged _ _ _ _ _ given.0 _ _ _ _ c.self.invariant.2.1 t.1 given.1 given.2 in
    let kept = kept_told _ _ _ _ t.0 c.in_ok-place.place _ _ _ c.give_unchanged.new.seat.me _ c.self.view_is (c.give_unchanged.ensures.same ∙ c.take_whole_for.ensures.same) c.self.invariant.2.1 was t.2 in
    ([], kept.grew, refl)

pub lend_piece-requires-clause-admits : goal.lend_piece-requires-clause-admits
lend_piece-requires-clause-admits g c =
    let t = c.in_ok-place.ensures.taken in
    let in_ = subst (λ m. Among c.args.pass.now m.passes) (sym c.self.view_is) c.requires.admits in
    token_admits _ _ _ _ t.0 _ _ _ c.self.invariant.2.1 t.2 in_ t.3

pub give-requires-clause-may : goal.give-requires-clause-may
give-requires-clause-may g c =
    let t = c.in_ok-place.ensures.taken in
    let in_ = subst (λ m. Among c.args.pass.now m.passes) (sym c.self.view_is) c.requires.admits in
    let x = c.in_ok-place.place in
    let is = c.in-Err.ensures.lends.0 in
    let generation = Some x.apart.generation in
    let after = with_disk c.lend_piece.new.self c.in-Some-Some.disk (Some c.in-Some-Some.making) in
    let quiet = checkpoint_quiet (view_of c.args.pass.now) generation false (Err c.in-Err.refused) is.entries is.notes in
    let moves : PlaceMoves None None is.entries x after = subst (λ (m : Option Half). PlaceMoves None None is.entries x (with_disk c.lend_piece.new.self c.in-Some-Some.disk m)) c.in-Some-Some.is-1
    (answered c.self.invariant.2.0 is.entries x c.lend_piece.new.self c.in-Some-Some.disk c.in-Some-Some.is-0 (quiet_own is.entries quiet) is.grows) in
    token_may_quiet _ _ _ _ _ t.0 x after c.args.pass.now c.args.pass.now is.entries _ _ _ c.self.invariant.2.1 t.1 t.2
    (checkpoint_free (view_of c.args.pass.now) generation false (Err c.in-Err.refused) is.entries is.notes) quiet moves in_ t.3 refl refl
    (token_knows_same _ _ _ _ t.0 is.entries x after _ c.args.pass.now c.args.pass.now c.self.invariant.2.1 t.2 in_ t.3 quiet refl c.in-Err.ensures.admits)

pub invariant_of-self-in-Err : goal.invariant_of-self-in-Err
invariant_of-self-in-Err g c =
    let t = c.in_ok-place.ensures.taken in
    let given = c.give.ensures.given in
    let same = c.give.ensures.same ∙ c.take_whole_for.ensures.same in
    (c.self.invariant.0 ∙ sym same, subst IsSmall (sym same) c.self.invariant.1, (c.self.invariant.2.0, rests_again _ _ _ _ _ _ given.0 _ _ _ _ _ c.self.invariant.2.1 t.1 given.2))

pub returns-in-Err-clause-notes : goal.returns-in-Err-clause-notes
returns-in-Err-clause-notes g c =
    let t = c.in_ok-place.ensures.taken in
    let given = c.give.ensures.given in
    let is = c.in-Err.ensures.lends.0 in
    let done = called _ _ _ _ t.0 given.0 None c.in_ok-place.place (with_disk c.lend_piece.new.self c.in-Some-Some.disk (Some c.in-Some-Some.making)) _ _ _ _ c.give.new.seat.me _ _ c.args.pass.now c.args.pass.now _ c.self.view_is (c.give.ensures.same ∙ c.take_whole_for.ensures.same) c.self.invariant.2.1 t.1 given.2 t.2
    (is.grows.moves Staged c.in-Some-Some.disk).generation in
    (given.0, done.grew, given.1)

pub returns-in-Err-clause-admits : goal.returns-in-Err-clause-admits
returns-in-Err-clause-admits g c =
    let t = c.in_ok-place.ensures.taken in
    let given = c.give.ensures.given in
    let is = c.in-Err.ensures.lends.0 in
    (called _ _ _ _ t.0 given.0 None c.in_ok-place.place (with_disk c.lend_piece.new.self c.in-Some-Some.disk (Some c.in-Some-Some.making)) _ _ _ _ c.give.new.seat.me _ _ c.args.pass.now c.args.pass.now _ c.self.view_is (c.give.ensures.same ∙ c.take_whole_for.ensures.same) c.self.invariant.2.1 t.1 given.2 t.2
    (is.grows.moves Staged c.in-Some-Some.disk).generation).among

pub give-requires-in-Ok-clause-may : goal.give-requires-in-Ok-clause-may
give-requires-in-Ok-clause-may g c =
    let t = c.in_ok-place.ensures.taken in
    let in_ = subst (λ m. Among c.args.pass.now m.passes) (sym c.self.view_is) c.requires.admits in
    let x = c.in_ok-place.place in
    let moves = lends_bare x c.lend_piece.new.self (record { disk = c.in-Some-Some.disk; batch = c.in-Ok.batch; generation = c.args.pass.now.generation }) c.in-Some-Some.is-0 c.in-Ok.ensures.lends t.3 in
    token_may_quiet _ _ _ _ _ t.0 x (without_disk c.lend_piece.new.self None) c.args.pass.now c.args.pass.now [] _ _ _ c.self.invariant.2.1 t.1 t.2
    refl tt moves in_ t.3 refl refl (token_knows_same _ _ _ _ t.0 [] x (without_disk c.lend_piece.new.self None) _ c.args.pass.now c.args.pass.now c.self.invariant.2.1 t.2 in_ t.3 tt refl c.in-Ok.ensures.admits)

pub finish_piece-requires-clause-seat : goal.finish_piece-requires-clause-seat
finish_piece-requires-clause-seat g c =
    let t = c.in_ok-place.ensures.taken in
    (c.self.invariant.2.0, rests_again _ _ _ _ _ _ c.give-in-Ok.ensures.given.0 (Some (record { disk = c.in-Some-Some.disk; batch = c.in-Ok.batch; generation = c.args.pass.now.generation })) _ _ _ _ c.self.invariant.2.1 t.1 c.give-in-Ok.ensures.given.2)

pub finish_piece-requires-clause-admits : goal.finish_piece-requires-clause-admits
finish_piece-requires-clause-admits g c =
    let t = c.in_ok-place.ensures.taken in
    let given = c.give-in-Ok.ensures.given in
    (called _ _ _ _ t.0 given.0 (Some (record { disk = c.in-Some-Some.disk; batch = c.in-Ok.batch; generation = c.args.pass.now.generation })) c.in_ok-place.place (without_disk c.lend_piece.new.self None) _ _ _ _ c.give-in-Ok.new.seat.me _ _ c.args.pass.now c.args.pass.now _ c.self.view_is (c.give-in-Ok.ensures.same ∙ c.take_whole_for.ensures.same) c.self.invariant.2.1 t.1 given.2 t.2
    (c.in-Ok.ensures.lends.moves Staged c.in-Some-Some.disk).generation).among

pub returns-in_err-stepping-in-Ok-clause-notes : goal.returns-in_err-stepping-in-Ok-clause-notes
returns-in_err-stepping-in-Ok-clause-notes g c =
    let t = c.in_ok-place.ensures.taken in
    let given = c.give-in-Ok.ensures.given in
    let done = called _ _ _ _ t.0 given.0 (Some (record { disk = c.in-Some-Some.disk; batch = c.in-Ok.batch; generation = c.args.pass.now.generation })) c.in_ok-place.place (without_disk c.lend_piece.new.self None) _ _ _ _ c.give-in-Ok.new.seat.me _ _ c.args.pass.now c.args.pass.now _ c.self.view_is (c.give-in-Ok.ensures.same ∙ c.take_whole_for.ensures.same) c.self.invariant.2.1 t.1 given.2 t.2
    (c.in-Ok.ensures.lends.moves Staged c.in-Some-Some.disk).generation in
    let rest = c.in_err-stepping-in-Ok.ensures.notes in
    let is : c.from_residual-in_err-stepping-in-Ok.result ≡ Err c.in_err-stepping-in-Ok.field-0.0 = search rules in
    (rest.0, grew_then given.0 rest.0 _ _ _ done.grew given.1 rest.1, subst (λ r. MakesOrNot (user_of None (view_of c.args.pass.now)) r rest.0) (sym is) rest.2)

pub returns-in_ok-stepping-in-Ok-clause-notes : goal.returns-in_ok-stepping-in-Ok-clause-notes
returns-in_ok-stepping-in-Ok-clause-notes g c =
    let t = c.in_ok-place.ensures.taken in
    let given = c.give-in-Ok.ensures.given in
    let done = called _ _ _ _ t.0 given.0 (Some (record { disk = c.in-Some-Some.disk; batch = c.in-Ok.batch; generation = c.args.pass.now.generation })) c.in_ok-place.place (without_disk c.lend_piece.new.self None) _ _ _ _ c.give-in-Ok.new.seat.me _ _ c.args.pass.now c.args.pass.now _ c.self.view_is (c.give-in-Ok.ensures.same ∙ c.take_whole_for.ensures.same) c.self.invariant.2.1 t.1 given.2 t.2
    (c.in-Ok.ensures.lends.moves Staged c.in-Some-Some.disk).generation in
    let rest = c.in_ok-stepping-in-Ok.ensures.notes in
    (rest.0, grew_then given.0 rest.0 _ _ _ done.grew given.1 rest.1, rest.2)
