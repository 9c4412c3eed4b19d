use Rattle.std.proofs.Common.{[], sym, ◌∙◌, None, subst, refl}
use Rattle.pm_store_shared.{specs.Passes.Among, proofs.{Calls.{called, stale_told, token_admits, token_may_quiet}, Flushing.grew_none_of, Moving.{gives_up, unmade}, Others.token_knows_same}}
use Rattle.pm_store_shared.proofs.token.Token.checkpoint_drop.Goals as goal

pub returns-in-Err-clause-notes : goal.returns-in-Err-clause-notes
returns-in-Err-clause-notes g c =
    let in_ = subst (λ m. Among c.args.pass.now m.passes) (sym c.self.view_is) c.requires.admits in
    (stale_told _ _ _ _ _ _ _ _ _ c.args.pass.now _ c.self.view_is c.take_for.ensures.same c.self.invariant.2.1 in_ c.in-Err.ensures.taken).grew

pub returns-in-Err-clause-admits : goal.returns-in-Err-clause-admits
returns-in-Err-clause-admits g c =
    let in_ = subst (λ m. Among c.args.pass.now m.passes) (sym c.self.view_is) c.requires.admits in
    subst (Among c.args.pass.now) (sym (stale_told _ _ _ _ _ _ _ _ _ c.args.pass.now _ c.self.view_is c.take_for.ensures.same c.self.invariant.2.1 in_ c.in-Err.ensures.taken).passes) c.requires.admits

pub give-requires-clause-may : goal.give-requires-clause-may
give-requires-clause-may g c =
    let t = c.in-Ok.ensures.taken in
    let in_ = subst (λ m. Among c.args.pass.now m.passes) (sym c.self.view_is) c.requires.admits in
    let x = c.in-Ok.place in
    let admitted = token_admits _ _ _ _ t.0 _ _ _ c.self.invariant.2.1 t.2 in_ t.3 in
    token_may_quiet _ _ _ _ _ t.0 x (unmade x) c.args.pass.now c.args.pass.now [] _ _ _ c.self.invariant.2.1 t.1 t.2 refl tt (gives_up x) in_ t.3 refl refl
    (token_knows_same _ _ _ _ t.0 [] x (unmade x) _ c.args.pass.now c.args.pass.now c.self.invariant.2.1 t.2 in_ t.3 tt refl admitted)

pub returns-in-Ok-clause-notes : goal.returns-in-Ok-clause-notes
returns-in-Ok-clause-notes g c =
    let t = c.in-Ok.ensures.taken in
    let given = c.give.ensures.given in
    let done = called _ _ _ _ t.0 given.0 None c.in-Ok.place (unmade c.in-Ok.place) _ _ _ _ c.give.new.seat.me _ _ c.args.pass.now c.args.pass.now _ c.self.view_is (c.give.ensures.same ∙ c.take_for.ensures.same) c.self.invariant.2.1 t.1 given.2 t.2 refl in
    grew_none_of given.0 _ _ done.grew given.1

pub returns-in-Ok-clause-admits : goal.returns-in-Ok-clause-admits
returns-in-Ok-clause-admits g c =
    let t = c.in-Ok.ensures.taken in
    let given = c.give.ensures.given in
    (called _ _ _ _ t.0 given.0 None c.in-Ok.place (unmade c.in-Ok.place) _ _ _ _ c.give.new.seat.me _ _ c.args.pass.now c.args.pass.now _ c.self.view_is (c.give.ensures.same ∙ c.take_for.ensures.same) c.self.invariant.2.1 t.1 given.2 t.2 refl).among
