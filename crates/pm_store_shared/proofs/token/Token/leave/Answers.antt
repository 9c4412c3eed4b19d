use Rattle.std.proofs.Common.{inl, inr, sym, ap, None, Some, ◌∙◌, ◌∷◌, [], subst}
use Rattle.pm_segment.specs.Passes.{view_of}
use Rattle.pm_store_shared.{specs.{Passes.{Among, without_pass}, Told.{given_back, passes_of}}, proofs.{Calls.{given_is, grew_by, leave_own, past_goes_on, stale_here, token_admits, token_may_leave, token_may_stale}, Moving.{grown, with_apart}}}
use Rattle.pm_query.specs.declared.book.BookEntry.TheVariants.{Detached}
use Rattle.pm_store_shared.proofs.token.Token.leave.Goals as goal

pub give-requires-clause-may : goal.give-requires-clause-may
give-requires-clause-may g c =
    let t = c.take-place.ensures.taken in token_may_stale _ _ _ _ t.0 c.take-place.result c.args.pass _ _ _ c.self.invariant.2.1 t.1 t.2 (λ e. c.if-generation-pass.true (c.generation.ensures ∙ sym e))

pub leave-requires : goal.leave-requires
leave-requires g c =
    let t = c.take-place.ensures.taken in
    let in_ = subst (λ m. Among c.args.pass m.passes) (sym c.self.view_is) c.requires in
    token_admits _ _ _ _ t.0 _ _ _ c.self.invariant.2.1 t.2 in_ (sym c.if-generation-pass.false ∙ c.generation.ensures)

pub give-requires-2-clause-may : goal.give-requires-2-clause-may
give-requires-2-clause-may g c =
    let t = c.take-place.ensures.taken in
    let in_ = subst (λ m. Among c.args.pass m.passes) (sym c.self.view_is) c.requires in
    let notes = c.leave.ensures.notes in
    token_may_leave _ _ _ _ t.0 c.take-place.result (with_apart c.leave.new.self c.take-place.result) c.args.pass notes.0 _ _ _ c.self.invariant.2.1 t.1 t.2 in_ (sym c.if-generation-pass.false ∙ c.generation.ensures) notes.2 (grown c.self.invariant.2.0 notes.0 c.take-place.result c.leave.new.self (leave_own (Some c.take-place.result.apart.generation) (view_of c.args.pass) notes.0 notes.2) notes.1)

pub returns-then-generation-pass-clause-notes : goal.returns-then-generation-pass-clause-notes
returns-then-generation-pass-clause-notes g c =
    let t = c.take-place.ensures.taken in
    let given = c.give.ensures.given in
    (given.0, grew_by _ _ _ _ _ _ _ _ given.0 _ c.give.new.seat.me _ c.self.view_is (c.give.ensures.same ∙ c.take-place.ensures.same) c.self.invariant.2.1 (given_is _ _ _ _ _ _ given.0 _ _ _ _ _ _ c.self.invariant.2.1 t.1 given.2) (past_goes_on _ _ _ _ t.0 c.take-place.result _ c.self.invariant.2.1 t.2), inr (tt, given.1))

pub returns-then-generation-pass-clause-stale : goal.returns-then-generation-pass-clause-stale
returns-then-generation-pass-clause-stale g c =
    let t = c.take-place.ensures.taken in
    let given = c.give.ensures.given in
    let in_ = subst (λ m. Among c.args.pass m.passes) (sym c.self.view_is) c.requires in
    let late = stale_here _ _ _ _ _ t.0 given.0 _ c.take-place.result _ _ c.give.new.seat.me _ _ c.args.pass _ c.self.invariant.2.1 t.1 given.2 t.2 in_ (λ e. c.if-generation-pass.true (c.generation.ensures ∙ sym e)) c.generation.ensures in
    inr late.1

pub returns-clause-notes : goal.returns-clause-notes
returns-clause-notes g c =
    let t = c.take-place.ensures.taken in
    let given = c.give-2.ensures.given in
    (given.0, grew_by _ _ _ _ _ _ _ _ given.0 _ c.give-2.new.seat.me _ c.self.view_is (c.give-2.ensures.same ∙ c.take-place.ensures.same) c.self.invariant.2.1 (given_is _ _ _ _ _ _ given.0 _ _ _ _ _ _ c.self.invariant.2.1 t.1 given.2) (past_goes_on _ _ _ _ t.0 c.take-place.result _ c.self.invariant.2.1 t.2), inl given.1)

pub returns-clause-stale : goal.returns-clause-stale
returns-clause-stale g c =
    let t = c.take-place.ensures.taken in
    let given = c.give-2.ensures.given in
    inl (grew_by _ _ _ _ _ _ _ _ (Detached c.args.pass.pid ∷ []) _ c.give-2.new.seat.me _ c.self.view_is (c.give-2.ensures.same ∙ c.take-place.ensures.same) c.self.invariant.2.1
    (given_is _ _ _ _ _ _ (Detached c.args.pass.pid ∷ []) _ _ _ _ _ _ c.self.invariant.2.1 t.1 (given.2 ∙ ap (λ es. (given_back c.take-place.new.seat.me.0 es (without_pass c.args.pass.pid c.args.pass.generation (passes_of c.take-place.new.seat.me.0)) None, [])) given.1)) (past_goes_on _ _ _ _ t.0 c.take-place.result _ c.self.invariant.2.1 t.2))
