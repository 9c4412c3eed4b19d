use Rattle.std.proofs.Common.{◌∙◌, ap, refl, sym, subst, ◌∷◌, [], None}
use Rattle.pm_store_shared.{specs.{Rule.taken, Stands.{Knows, Stands}, Told.{given_back, passes_of}}, proofs.{Moving.tells_disk, Unchanged.{IsAsFound, as_found, found_again, may_give_back}}}
use Rattle.pm_store_shared.proofs.holding.take_whole.Goals as goal

pub loop-init : goal.loop-init
loop-init g c = (tt, tt, refl, c.requires.seat.0, as_found Stands Knows c.args.seat.now.me.0 c.requires.seat.2 c.requires.seat.3)

pub take-place-requires-clause-seat : goal.take-place-requires-clause-seat
take-place-requires-clause-seat g c = let inv = c.loop.invariant in (inv.3, inv.4.number ∙ c.requires.seat.1, inv.4.mine)

pub give_unchanged-requires-clause-may : goal.give_unchanged-requires-clause-may
give_unchanged-requires-clause-may g c =
    let t = c.take-place.ensures.taken in let inv = c.loop.invariant in
    may_give_back Stands Knows _ t.0 c.take-place.result _ _ inv.4.mine inv.4.unlent t.1 t.2

pub returns-then-is_some-clause-taken : goal.returns-then-is_some-clause-taken
returns-then-is_some-clause-taken g c =
    let t = c.take-place.ensures.taken in let inv = c.loop.invariant in
    (t.0, t.1 ∙ ap (λ v. (v, (0, None) ∷ [])) (inv.4.held (taken t.0 c.take-place.result)), inv.4.tells (taken t.0 c.take-place.result) t.2)

pub returns-then-is_some-clause-whole : goal.returns-then-is_some-clause-whole
returns-then-is_some-clause-whole g c =
    let t = c.take-place.ensures.taken in tells_disk _ t.0 c.take-place.result c.loop.invariant.4.mine t.2 (sym c.is_some.ensures ∙ c.if-is_some.true)

pub loop-preserved : goal.loop-preserved
loop-preserved g c =
    let t = c.take-place.ensures.taken in let inv = c.loop.invariant in let given = c.give_unchanged.ensures.given in
    let is = given.2 ∙ (λ i. (given_back c.take-place.new.seat.me.0 (given.1 i) (passes_of c.take-place.new.seat.me.0) None, [])) ∙ ap (λ m. (given_back m.0 [] (passes_of m.0) None, [])) t.1 in
    (tt, tt, c.give_unchanged.ensures.same ∙ c.take-place.ensures.same ∙ inv.2, ap (λ m. m.1) given.2, subst (λ m. IsAsFound Stands Knows c.args.seat.now.me.0 m.0) (sym is) (found_again Stands Knows c.args.seat.now.me.0 _ (taken t.0 c.take-place.result) inv.4 t.2))
