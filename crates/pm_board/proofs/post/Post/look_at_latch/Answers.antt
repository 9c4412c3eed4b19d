use Rattle.std.proofs.Common.{ℕ, ◌<◌, arith, refl, sym, ap, ◌∙◌, subst}
use Rattle.pm_board_words.specs.Latch.{latch_pid}
use Rattle.pm_board.specs.{Slots.child_slots, Told.{post_of, with_notes, noted_latch_look}}
use Rattle.pm_board.proofs.Steps as steps
use Rattle.pm_board.proofs.Ties as ties
use Rattle.pm_board.proofs.Homing as homing
use Rattle.pm_board.proofs.post.Post.look_at_latch.Goals as goal

pub load-found-requires : goal.load-found-requires
load-found-requires g c =
    let inv = c.self.invariant.0 in
    let first = ap (λ b. b.table) c.deref.ensures ∙ inv.0 in
    let t = ap (λ b. b.table) c.deref-2.ensures ∙ inv.0 in
    let near = subst (λ z. c.args.slot < child_slots z.slots) (sym (ap (λ v. v.table) c.self.view_is)) c.requires in
    let place = steps.latch_in _ _ _ _ _ (c.slot_count.ensures ∙ ap (λ z. z.slots) first) refl near inv.2 t in
    record {
      may = (sym t, place.0, steps.peeks_as g.J.Letter _ _ _ _ _ c.args.slot _ _ _ place.1 (steps.seat_as _ _ inv.1) (subst (λ z. c.args.slot < child_slots z.slots) (sym t) near));
      ties = ties.worker_tied g.J.Letter g.H.Home c.deref-2.result.now c.self.inside.seat c.self.inside.index (post_of c.self.inside.seat.me.0) _ inv.1 (λ found me told. (_, homing.reposted_to _ _ _ _ inv.1 (told c.args.slot place.1).0, (λ _ at. at)));
    }

pub armed_for-requires : goal.armed_for-requires
armed_for-requires g c =
    let inv = c.self.invariant.0 in
    let first = ap (λ b. b.table) c.deref.ensures ∙ inv.0 in
    let t = ap (λ b. b.table) c.deref-2.ensures ∙ inv.0 in
    let near = subst (λ z. c.args.slot < child_slots z.slots) (sym (ap (λ v. v.table) c.self.view_is)) c.requires in
    let place = steps.latch_in _ _ _ _ _ (c.slot_count.ensures ∙ ap (λ z. z.slots) first) refl near inv.2 t in
    let low : latch_pid c.load-found.result < 2147483648 = (c.load-found.ensures.told.2 c.args.slot place.1).1 in
    omega arith

pub invariant_of-self : goal.invariant_of-self
invariant_of-self g c =
    let inv = c.self.invariant.0 in
    let first = ap (λ b. b.table) c.deref.ensures ∙ inv.0 in
    let t = ap (λ b. b.table) c.deref-2.ensures ∙ inv.0 in
    let near = subst (λ z. c.args.slot < child_slots z.slots) (sym (ap (λ v. v.table) c.self.view_is)) c.requires in
    let place = steps.latch_in _ _ _ _ _ (c.slot_count.ensures ∙ ap (λ z. z.slots) first) refl near inv.2 t in
    let is = steps.noted_as c.self.inside.index c.self.inside.seat.me _ _ inv.1 (c.load-found.ensures.told.2 c.args.slot place.1).0 in (
      steps.post_sealed _ _ _ _ _ _ _ _ _ _ inv.0 c.load-found.ensures.told.0 inv.2 inv.3 is inv.4 inv.5 inv.6 inv.7 inv.8,
      homing.post_home g.H.Home _ _ _ c.load-found.ensures.more c.self.invariant.1,
    )

pub returns-clause-met : goal.returns-clause-met
returns-clause-met g c =
    let inv = c.self.invariant.0 in
    let first = ap (λ b. b.table) c.deref.ensures ∙ inv.0 in
    let t = ap (λ b. b.table) c.deref-2.ensures ∙ inv.0 in
    let near = subst (λ z. c.args.slot < child_slots z.slots) (sym (ap (λ v. v.table) c.self.view_is)) c.requires in
    let place = steps.latch_in _ _ _ _ _ (c.slot_count.ensures ∙ ap (λ z. z.slots) first) refl near inv.2 t in
    let word : ℕ = c.load-found.result in
    let is = steps.noted_as c.self.inside.index c.self.inside.seat.me _ _ inv.1 (c.load-found.ensures.told.2 c.args.slot place.1).0 in
    (word, c.armed_for.ensures, ap (λ m. post_of m.0) is ∙ ap (λ v. with_notes v.knows (noted_latch_look v.knows.notes c.args.slot word)) c.self.view_is)

pub returns-clause-home : goal.returns-clause-home
returns-clause-home g c = ap (λ m. m.0) c.load-found.ensures.more ∙ ap (λ v. v.home) c.self.view_is
