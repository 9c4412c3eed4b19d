use Rattle.std.proofs.Common.{◌<◌, refl, sym, ap, ◌∙◌, subst}
use Rattle.pm_board_words.specs.Latch.{cancel_place}
use Rattle.pm_board.specs.{Slots.child_slots, Told.post_of}
use Rattle.pm_board.proofs.Steps as steps
use Rattle.pm_board.proofs.Ties as ties
use Rattle.pm_board.proofs.Homing as homing
use Rattle.pm_board.proofs.post.Post.raise.Goals as goal

pub fetch_max-requires : goal.fetch_max-requires
fetch_max-requires g c =
    let inv = c.self.invariant.0 in
    let first = ap (λ b. b.table) c.deref.ensures ∙ inv.0 in
    let t = ap (λ b. b.table) c.deref-2.ensures ∙ inv.0 in
    let near = subst (λ z. c.args.slot < child_slots z.slots) (sym (ap (λ v. v.table) c.self.view_is)) c.requires.place.0 in
    let place = steps.cancels_in _ _ _ _ _ (c.slot_count-count.ensures ∙ ap (λ z. z.slots) first) refl near inv.2 t in
    let here = subst (λ z. c.args.slot < child_slots z.slots) (sym t) near in
    let slot = c.requires.place.1 in
    record {
      may = (
        sym t,
        place.0,
        steps.cancels_as g.J.Letter _ _ _ _ _ _ g.C.Made.cancel _ _ _ (place.1 ∙ ap (λ q. cancel_place (child_slots c.deref-2.result.now.table.slots) q) (sym slot)) (c.from.ensures ∙ sym c.requires.place.2) (steps.seat_as _ _ inv.1)
            (subst (λ q. q < child_slots c.deref-2.result.now.table.slots) (sym slot) here) c.requires.key,
      );
      ties = ties.worker_tied g.J.Letter g.H.Home c.deref-2.result.now c.self.inside.seat c.self.inside.index (post_of c.self.inside.seat.me.0) _ inv.1 (λ found me told. (_, homing.reposted_to _ _ _ _ inv.1 told, (λ _ at. at)));
    }

pub invariant_of-self : goal.invariant_of-self
invariant_of-self g c =
    let inv = c.self.invariant.0 in
    let is = steps.noted_as c.self.inside.index c.self.inside.seat.me _ _ inv.1 c.fetch_max.ensures.told.2 in (
      steps.post_sealed _ _ _ _ _ _ _ _ _ _ inv.0 c.fetch_max.ensures.told.0 inv.2 inv.3 is inv.4 inv.5 inv.6 inv.7 inv.8,
      homing.post_home g.H.Home _ _ _ c.fetch_max.ensures.more c.self.invariant.1,
    )

pub returns-clause-home : goal.returns-clause-home
returns-clause-home g c = ap (λ m. m.0) c.fetch_max.ensures.more ∙ ap (λ v. v.home) c.self.view_is
