use Rattle.std.proofs.Common.{rules, ◌≡◌, ℕ, [], sym, ap, ◌∙◌, Option, Some, None, Err, subst, refl}
use Rattle.pm_segment.specs.{Passes.view_of, pm_query.{Book.generation_of, Calls.{MetLater, RunNotes, user_of}}}
use Rattle.pm_store_shared.{specs.{Told.{IsSmall, past_of}, Passes.Among}, proofs.{Calls.{RunView, called, rests_again, run_free, run_pass, run_quiet, stale_told, token_admits, token_knows_run, token_may_quiet}, Moving.{grown, grown_generation, with_apart}, Stores.quiet_own}}
use Rattle.pm_store_shared.proofs.token.Token.run.Goals as goal

pub run-result-requires : goal.run-result-requires
run-result-requires g c =
    let t = c.in_ok-place.ensures.taken in
    let in_ = subst (λ m. Among c.args.pass.now m.passes) (sym c.self.view_is) c.requires in
    token_admits _ _ _ _ t.0 _ _ _ c.self.invariant.2.1 t.2 in_ t.3

pub give-requires-clause-may : goal.give-requires-clause-may
give-requires-clause-may g c =
    let t = c.in_ok-place.ensures.taken in
    let in_ = subst (λ m. Among c.args.pass.now m.passes) (sym c.self.view_is) c.requires in
    let ran = c.run-result.ensures.run in
    let stamp : Option ℕ = Some c.in_ok-place.place.apart.generation in
    let view : RunView c.run-result.result c.args.pass.now c.run-result.new.pass = (ran.view, ran.refused) in
    let same = run_pass c.run-result.result c.args.pass.now c.run-result.new.pass view in
    let quiet = run_quiet (view_of c.args.pass.now) stamp c.args.script.now c.run-result.result ran.entries ran.notes in
    token_may_quiet _ _ _ _ _ t.0 c.in_ok-place.place (with_apart c.run-result.new.self c.in_ok-place.place) c.args.pass.now c.run-result.new.pass ran.entries _ _ _ c.self.invariant.2.1 t.1 t.2
    (run_free (view_of c.args.pass.now) stamp c.args.script.now c.run-result.result ran.entries ran.notes) quiet (grown c.self.invariant.2.0 ran.entries c.in_ok-place.place c.run-result.new.self (quiet_own ran.entries quiet) ran.grows) in_ t.3 same.0 same.1
    (token_knows_run c.run-result.result stamp c.args.script.now _ _ _ _ t.0 ran.entries c.in_ok-place.place (with_apart c.run-result.new.self c.in_ok-place.place) _ c.args.pass.now c.run-result.new.pass c.self.invariant.2.1 t.2 in_ t.3 ran.notes view c.run-result.ensures.admits)

pub returns-clause-notes : goal.returns-clause-notes
returns-clause-notes g c =
    let t = c.in_ok-place.ensures.taken in
    let given = c.give.ensures.given in
    let done = called _ _ _ _ t.0 given.0 _ c.in_ok-place.place (with_apart c.run-result.new.self c.in_ok-place.place) _ _ _ _ c.give.new.seat.me _ _ c.args.pass.now c.run-result.new.pass _ c.self.view_is (c.give.ensures.same ∙ c.take_for.ensures.same) c.self.invariant.2.1 t.1 given.2 t.2 (grown_generation c.self.invariant.2.0 _ _ _ c.run-result.ensures.run.grows) in
    (given.0, done.grew, given.1)

pub returns-clause-admits : goal.returns-clause-admits
returns-clause-admits g c =
    let t = c.in_ok-place.ensures.taken in
    let given = c.give.ensures.given in
    (called _ _ _ _ t.0 given.0 _ c.in_ok-place.place (with_apart c.run-result.new.self c.in_ok-place.place) _ _ _ _ c.give.new.seat.me _ _ c.args.pass.now c.run-result.new.pass _ c.self.view_is (c.give.ensures.same ∙ c.take_for.ensures.same) c.self.invariant.2.1 t.1 given.2 t.2 (grown_generation c.self.invariant.2.0 _ _ _ c.run-result.ensures.run.grows)).among

pub returns-clause-stale : goal.returns-clause-stale
returns-clause-stale g c =
    let t = c.in_ok-place.ensures.taken in
    let given = c.give.ensures.given in
    let done = called _ _ _ _ t.0 given.0 _ c.in_ok-place.place (with_apart c.run-result.new.self c.in_ok-place.place) _ _ _ _ c.give.new.seat.me _ _ c.args.pass.now c.run-result.new.pass _ c.self.view_is (c.give.ensures.same ∙ c.take_for.ensures.same) c.self.invariant.2.1 t.1 given.2 t.2 (grown_generation c.self.invariant.2.0 _ _ _ c.run-result.ensures.run.grows) in
    subst (λ n. MetLater n c.args.pass.now.generation c.run-result.result) done.met c.run-result.ensures.stale

pub returns-in_err-place-clause-notes : goal.returns-in_err-place-clause-notes
returns-in_err-place-clause-notes g c =
    let in_ = subst (λ m. Among c.args.pass.now m.passes) (sym c.self.view_is) c.requires in
    let stale = stale_told _ _ _ _ _ _ _ _ _ c.args.pass.now _ c.self.view_is c.take_for.ensures.same c.self.invariant.2.1 in_ c.in_err-place.ensures.taken in
    let is : c.from_residual.result ≡ Err c.in_err-place.field-0.0 = search rules in
    ([], stale.grew, subst (λ r. RunNotes (user_of None (view_of c.args.pass.now)) c.args.script.now r []) (sym (is ∙ ap (λ n. Err n) stale.refusal_is)) (tt, refl))

pub returns-in_err-place-clause-stale : goal.returns-in_err-place-clause-stale
returns-in_err-place-clause-stale g c =
    let in_ = subst (λ m. Among c.args.pass.now m.passes) (sym c.self.view_is) c.requires in
    let stale = stale_told _ _ _ _ _ _ _ _ _ c.args.pass.now _ c.self.view_is c.take_for.ensures.same c.self.invariant.2.1 in_ c.in_err-place.ensures.taken in
    let is : c.from_residual.result ≡ Err c.in_err-place.field-0.0 = search rules in
    subst (λ r. MetLater (generation_of (past_of c.take_for.new.seat.me.0)) c.args.pass.now.generation r) (sym (is ∙ ap (λ n. Err n) stale.refusal_is)) (refl, refl, stale.later)

pub invariant_of-self-2 : goal.invariant_of-self-2
invariant_of-self-2 g c =
    let t = c.in_ok-place.ensures.taken in
    let given = c.give.ensures.given in
    let same = c.give.ensures.same ∙ c.take_for.ensures.same in
    (c.self.invariant.0 ∙ sym same, subst IsSmall (sym same) c.self.invariant.1, (c.self.invariant.2.0, rests_again _ _ _ _ _ _ given.0 _ _ _ _ _ c.self.invariant.2.1 t.1 given.2))

pub returns-clause-fresh : goal.returns-clause-fresh
returns-clause-fresh g c = c.run-result.ensures.run.fresh

pub returns-clause-view : goal.returns-clause-view
returns-clause-view g c = c.run-result.ensures.run.view

pub returns-clause-refused : goal.returns-clause-refused
returns-clause-refused g c = c.run-result.ensures.run.refused

pub returns-clause-short : goal.returns-clause-short
returns-clause-short g c = c.run-result.ensures.run.short
