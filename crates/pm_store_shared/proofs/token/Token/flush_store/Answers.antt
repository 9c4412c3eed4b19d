use Rattle.std.proofs.{Common.{rules, ◌≡◌, [], sym, ap, ◌∙◌, Some, None, Err, subst, refl}, lemmas.Option.same_Some}
use Rattle.pm_segment.specs.{pm_store_apart.declared.commits.Commits.TheVariants.Staged, Passes.view_of, Rests.IsAtRest, pm_query.{Book.generation_of, Calls.{MetLater, FlushNotes, user_of}}}
use Rattle.pm_store_shared.{specs.{Told.past_of, Passes.Among}, proofs.{Calls.{called, rests_again, stale_told, token_admits, token_may_quiet}, Flushing.{cause_met, cause_told, grew_then}, Learns.flush_learns, Moving.{answered, lends, with_disk, without_disk}, Others.{flush_free, flush_quiet, token_knows_same}, Stores.quiet_own}}
use Rattle.pm_store_shared.proofs.token.Token.flush_store.Goals as goal

pub returns-in_err-place-clause-notes : goal.returns-in_err-place-clause-notes
returns-in_err-place-clause-notes g c =
    let in_ = subst (λ m. Among c.args.pass.now m.passes) (sym c.self.view_is) c.requires.admits in
    let stale = stale_told _ _ _ _ _ _ _ _ _ c.args.pass.now _ c.self.view_is c.take_whole_for.ensures.same c.self.invariant.2.1 in_ c.in_err-place.ensures.taken in
    let is : c.from_residual.result ≡ Err c.in_err-place.field-0.0 = search rules in
    ([], stale.grew, subst (λ r. FlushNotes (user_of None (view_of c.args.pass.now)) r []) (sym (is ∙ ap (λ n. Err n) stale.refusal_is)) (tt, refl))

pub returns-in_err-place-clause-stale : goal.returns-in_err-place-clause-stale
returns-in_err-place-clause-stale g c =
    let in_ = subst (λ m. Among c.args.pass.now m.passes) (sym c.self.view_is) c.requires.admits in
    let stale = stale_told _ _ _ _ _ _ _ _ _ c.args.pass.now _ c.self.view_is c.take_whole_for.ensures.same c.self.invariant.2.1 in_ c.in_err-place.ensures.taken in
    let is : c.from_residual.result ≡ Err c.in_err-place.field-0.0 = search rules in
    subst (λ r. MetLater (generation_of (past_of c.take_whole_for.new.seat.me.0)) c.args.pass.now.generation r) (sym (is ∙ ap (λ n. Err n) stale.refusal_is)) (refl, refl, stale.later)

pub lend-requires-clause-admits : goal.lend-requires-clause-admits
lend-requires-clause-admits g c =
    let t = c.in_ok-place.ensures.taken in
    let in_ = subst (λ m. Among c.args.pass.now m.passes) (sym c.self.view_is) c.requires.admits in
    token_admits _ _ _ _ t.0 _ _ _ c.self.invariant.2.1 t.2 in_ t.3

pub lend-requires-clause-home : goal.lend-requires-clause-home
lend-requires-clause-home g c = c.in_ok-place.ensures.whole.home

pub give-requires-clause-may : goal.give-requires-clause-may
give-requires-clause-may g c =
    let t = c.in_ok-place.ensures.taken in
    let in_ = subst (λ m. Among c.args.pass.now m.passes) (sym c.self.view_is) c.requires.admits in
    let is = c.in-Answered.ensures.lends in
    let quiet = flush_quiet (view_of c.args.pass.now) (Some c.in_ok-place.place.apart.generation) c.in-Answered.result is.entries is.notes in
    let moves = answered c.self.invariant.2.0 is.entries c.in_ok-place.place c.lend.new.self c.in-Some.disk c.in-Some.is (quiet_own is.entries quiet) is.grows in
    token_may_quiet _ _ _ _ _ t.0 c.in_ok-place.place (with_disk c.lend.new.self c.in-Some.disk c.in_ok-place.place.making) c.args.pass.now c.args.pass.now is.entries _ _ _ c.self.invariant.2.1 t.1 t.2
    (flush_free (view_of c.args.pass.now) (Some c.in_ok-place.place.apart.generation) c.in-Answered.result is.entries is.notes) quiet moves in_ t.3 refl refl (token_knows_same _ _ _ _ t.0 is.entries c.in_ok-place.place (with_disk c.lend.new.self c.in-Some.disk c.in_ok-place.place.making) _ c.args.pass.now c.args.pass.now c.self.invariant.2.1 t.2 in_ t.3 quiet refl c.in-Answered.ensures.admits)

pub returns-in-Answered-clause-notes : goal.returns-in-Answered-clause-notes
returns-in-Answered-clause-notes g c =
    let t = c.in_ok-place.ensures.taken in
    let in_ = subst (λ m. Among c.args.pass.now m.passes) (sym c.self.view_is) c.requires.admits in
    let is = c.in-Answered.ensures.lends in
    let quiet = flush_quiet (view_of c.args.pass.now) (Some c.in_ok-place.place.apart.generation) c.in-Answered.result is.entries is.notes in
    let moves = answered c.self.invariant.2.0 is.entries c.in_ok-place.place c.lend.new.self c.in-Some.disk c.in-Some.is (quiet_own is.entries quiet) is.grows in
    let given = c.give.ensures.given in
    let done = called _ _ _ _ t.0 given.0 None c.in_ok-place.place (with_disk c.lend.new.self c.in-Some.disk c.in_ok-place.place.making) _ _ _ _ c.give.new.seat.me _ _ c.args.pass.now c.args.pass.now _ c.self.view_is (c.give.ensures.same ∙ c.take_whole_for.ensures.same) c.self.invariant.2.1 t.1 given.2 t.2 moves.generation in
    (given.0, done.grew, given.1)

pub returns-in-Answered-clause-admits : goal.returns-in-Answered-clause-admits
returns-in-Answered-clause-admits g c =
    let t = c.in_ok-place.ensures.taken in
    let in_ = subst (λ m. Among c.args.pass.now m.passes) (sym c.self.view_is) c.requires.admits in
    let is = c.in-Answered.ensures.lends in
    let quiet = flush_quiet (view_of c.args.pass.now) (Some c.in_ok-place.place.apart.generation) c.in-Answered.result is.entries is.notes in
    let moves = answered c.self.invariant.2.0 is.entries c.in_ok-place.place c.lend.new.self c.in-Some.disk c.in-Some.is (quiet_own is.entries quiet) is.grows in
    let given = c.give.ensures.given in
    let done = called _ _ _ _ t.0 given.0 None c.in_ok-place.place (with_disk c.lend.new.self c.in-Some.disk c.in_ok-place.place.making) _ _ _ _ c.give.new.seat.me _ _ c.args.pass.now c.args.pass.now _ c.self.view_is (c.give.ensures.same ∙ c.take_whole_for.ensures.same) c.self.invariant.2.1 t.1 given.2 t.2 moves.generation in
    done.among

pub returns-in-Answered-clause-stale : goal.returns-in-Answered-clause-stale
returns-in-Answered-clause-stale g c = cause_met _ _ _ _ c.in-Answered.result (c.in-Answered.ensures.lends.cause Staged c.in-Some.disk)

pub returns-in-Answered-clause-learned : goal.returns-in-Answered-clause-learned
returns-in-Answered-clause-learned g c =
    let t = c.in_ok-place.ensures.taken in
    let in_ = subst (λ m. Among c.args.pass.now m.passes) (sym c.self.view_is) c.requires.admits in
    let is = c.in-Answered.ensures.lends in
    let quiet = flush_quiet (view_of c.args.pass.now) (Some c.in_ok-place.place.apart.generation) c.in-Answered.result is.entries is.notes in
    let moves = answered c.self.invariant.2.0 is.entries c.in_ok-place.place c.lend.new.self c.in-Some.disk c.in-Some.is (quiet_own is.entries quiet) is.grows in
    let given = c.give.ensures.given in
    let done = called _ _ _ _ t.0 given.0 None c.in_ok-place.place (with_disk c.lend.new.self c.in-Some.disk c.in_ok-place.place.making) _ _ _ _ c.give.new.seat.me _ _ c.args.pass.now c.args.pass.now _ c.self.view_is (c.give.ensures.same ∙ c.take_whole_for.ensures.same) c.self.invariant.2.1 t.1 given.2 t.2 moves.generation in
    flush_learns _ _ _ _ t.0 is.entries c.in_ok-place.place (with_disk c.lend.new.self c.in-Some.disk c.in_ok-place.place.making) _ _ _ _ _ None (user_of (Some c.in_ok-place.place.apart.generation) (view_of c.args.pass.now)) c.in-Answered.result c.self.view_is c.self.invariant.2.1 t.2 is.notes moves
    (cause_told _ _ c.in-Answered.result (is.cause Staged c.in-Some.disk)) done.grew.first done.past

pub give-requires-in-Lent-clause-may : goal.give-requires-in-Lent-clause-may
give-requires-in-Lent-clause-may g c =
    let t = c.in_ok-place.ensures.taken in
    let in_ = subst (λ m. Among c.args.pass.now m.passes) (sym c.self.view_is) c.requires.admits in
    let moves = lends c.in_ok-place.place c.lend.new.self (record { disk = c.in-Some.disk; batch = c.in-Lent.batch; generation = c.args.pass.now.generation }) c.in-Some.is c.in-Lent.ensures.lends t.3 in
    token_may_quiet _ _ _ _ _ t.0 c.in_ok-place.place (without_disk c.lend.new.self c.in_ok-place.place.making) c.args.pass.now c.args.pass.now [] _ _ _ c.self.invariant.2.1 t.1 t.2
    refl tt moves in_ t.3 refl refl (token_knows_same _ _ _ _ t.0 [] c.in_ok-place.place (without_disk c.lend.new.self c.in_ok-place.place.making) _ c.args.pass.now c.args.pass.now c.self.invariant.2.1 t.2 in_ t.3 tt refl c.in-Lent.ensures.admits)

pub finish-requires-clause-seat : goal.finish-requires-clause-seat
finish-requires-clause-seat g c =
    let t = c.in_ok-place.ensures.taken in (c.self.invariant.2.0, rests_again _ _ _ _ _ _ c.give-in-Lent.ensures.given.0 (Some (record { disk = c.in-Some.disk; batch = c.in-Lent.batch; generation = c.args.pass.now.generation })) _ _ _ _ c.self.invariant.2.1 t.1 c.give-in-Lent.ensures.given.2)

pub finish-requires-clause-admits : goal.finish-requires-clause-admits
finish-requires-clause-admits g c =
    let t = c.in_ok-place.ensures.taken in
    let in_ = subst (λ m. Among c.args.pass.now m.passes) (sym c.self.view_is) c.requires.admits in
    let moves = lends c.in_ok-place.place c.lend.new.self (record { disk = c.in-Some.disk; batch = c.in-Lent.batch; generation = c.args.pass.now.generation }) c.in-Some.is c.in-Lent.ensures.lends t.3 in
    let given = c.give-in-Lent.ensures.given in
    let done = called _ _ _ _ t.0 given.0 (Some (record { disk = c.in-Some.disk; batch = c.in-Lent.batch; generation = c.args.pass.now.generation })) c.in_ok-place.place (without_disk c.lend.new.self c.in_ok-place.place.making) _ _ _ _ c.give-in-Lent.new.seat.me _ _ c.args.pass.now c.args.pass.now _ c.self.view_is (c.give-in-Lent.ensures.same ∙ c.take_whole_for.ensures.same) c.self.invariant.2.1 t.1 given.2 t.2 moves.generation in
    done.among

pub finish-requires-clause-ready : goal.finish-requires-clause-ready
finish-requires-clause-ready g c =
    let whole = c.in_ok-place.ensures.whole in
    c.in-Lent.ensures.lends.ready c.in-Some.disk (subst (λ disk. IsAtRest disk c.in_ok-place.place.apart) (same_Some _ _ (sym whole.disk ∙ c.in-Some.is)) whole.rests)

pub returns-in-Lent-clause-notes : goal.returns-in-Lent-clause-notes
returns-in-Lent-clause-notes g c =
    let t = c.in_ok-place.ensures.taken in
    let in_ = subst (λ m. Among c.args.pass.now m.passes) (sym c.self.view_is) c.requires.admits in
    let moves = lends c.in_ok-place.place c.lend.new.self (record { disk = c.in-Some.disk; batch = c.in-Lent.batch; generation = c.args.pass.now.generation }) c.in-Some.is c.in-Lent.ensures.lends t.3 in
    let given = c.give-in-Lent.ensures.given in
    let done = called _ _ _ _ t.0 given.0 (Some (record { disk = c.in-Some.disk; batch = c.in-Lent.batch; generation = c.args.pass.now.generation })) c.in_ok-place.place (without_disk c.lend.new.self c.in_ok-place.place.making) _ _ _ _ c.give-in-Lent.new.seat.me _ _ c.args.pass.now c.args.pass.now _ c.self.view_is (c.give-in-Lent.ensures.same ∙ c.take_whole_for.ensures.same) c.self.invariant.2.1 t.1 given.2 t.2 moves.generation in
    let rest = c.finish.ensures.notes in
    (rest.0, grew_then given.0 rest.0 _ _ _ done.grew given.1 rest.1, rest.2)
