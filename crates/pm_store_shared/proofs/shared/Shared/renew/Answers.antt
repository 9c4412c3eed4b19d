use Rattle.std.proofs.Common.{◌∙◌, [], subst}
use Rattle.pm_store_shared.{specs.{Rule.taken, Stands.{Knows, Stands}, Told.Tells}, proofs.Renewing.{Did, did_commits, renew_did, renew_may}}
use Rattle.pm_store_shared.proofs.shared.Shared.renew.Goals as goal

pub of-place-requires : goal.of-place-requires
of-place-requires g c =
    let did : Did c.self.inside.tokens c.self.invariant.2.0 0 [] [] [] c.into_store-store.result c.renew-result.new.self c.take_whole-place.result c.take_whole-place.result c.args.gone.now c.args.generation c.renew-result.result =
    (c.renew-result.ensures.renews, c.renew-result.ensures.refused) in
    did_commits c.self.inside.tokens c.self.invariant.2.0 0 [] [] [] c.into_store-store.result c.renew-result.new.self c.take_whole-place.result c.take_whole-place.result c.args.gone.now c.args.generation c.renew-result.result did ∙ c.into_store-store.ensures.staged

pub give_renewed-requires-clause-may : goal.give_renewed-requires-clause-may
give_renewed-requires-clause-may g c =
    let t = c.take_whole-place.ensures.taken in
    let did : Did c.self.inside.tokens c.self.invariant.2.0 0 [] [] t.0 c.into_store-store.result c.renew-result.new.self c.take_whole-place.result c.of-place.result c.args.gone.now c.args.generation c.renew-result.result =
    (c.renew-result.ensures.renews, c.renew-result.ensures.refused) in
    renew_may _ _ _ _ _ t.0 c.into_store-store.result c.renew-result.new.self c.take_whole-place.result c.of-place.result c.args.gone.now c.args.generation c.renew-result.result _ _ _ c.self.invariant.2.1 t.1 t.2 c.into_store-store.ensures
    c.of-place.ensures.laid c.of-place.ensures.bare did c.renew-result.ensures.disk

pub returns-clause-ok : goal.returns-clause-ok
returns-clause-ok g c =
    let t = c.take_whole-place.ensures.taken in
    let given = c.give_renewed.ensures.given in
    let tells = subst (λ m. Tells Stands Knows m.0 (taken t.0 c.take_whole-place.result)) c.self.invariant.2.1 t.2 in
    renew_did _ _ _ _ _ t.0 given.0 c.take_whole-place.result c.args.gone.now c.args.generation c.renew-result.result _ _ _ _ c.give_renewed.new.seat.me _ _ _ c.self.invariant.2.1 t.1 given.2 tells.2 c.self.view_is (c.give_renewed.ensures.same ∙ c.take_whole-place.ensures.same) c.requires given.1
