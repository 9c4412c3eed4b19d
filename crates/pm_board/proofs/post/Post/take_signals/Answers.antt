use Rattle.std.proofs.Common.{◌≡◌, ◌<◌, ◌≤◌, arith, refl, sym, ap, ◌∙◌}
use Rattle.pm_board.specs.{Slots.is_slot, Told.{child_in, post_of}}
use Rattle.pm_board.proofs.Steps as steps
use Rattle.pm_board.proofs.Ties as ties
use Rattle.pm_board.proofs.Homing as homing
use Rattle.pm_board.proofs.post.Post.take_signals.Goals as goal

pub fetch_and-found-requires : goal.fetch_and-found-requires
fetch_and-found-requires g c =
    let inv = c.self.invariant.0 in
    let first = ap (λ b. b.table) c.deref.ensures ∙ inv.0 in
    let t = ap (λ b. b.table) c.deref-2.ensures ∙ inv.0 in
    let runs = ap (λ v. child_in v.knows.work) c.self.view_is ∙ c.requires.runs.1 in
    let place = steps.latch_in _ _ _ _ _ (c.slot_count.ensures ∙ ap (λ z. z.slots) first) refl inv.3 inv.2 t in
    record {
      may = (sym t, place.0, steps.takes_as g.J.Letter _ _ _ _ _ c.requires.runs.0 _ _ _ place.1 (steps.seat_as _ _ inv.1) runs);
      ties = ties.worker_tied g.J.Letter g.H.Home c.deref-2.result.now c.self.inside.seat c.self.inside.index (post_of c.self.inside.seat.me.0) _ inv.1 (λ found me told. (_, homing.reposted_to _ _ _ _ inv.1 told, (λ _ at. at)));
    }

pub invariant_of-self : goal.invariant_of-self
invariant_of-self g c =
    let inv = c.self.invariant.0 in
    let is = steps.noted_as c.self.inside.index c.self.inside.seat.me _ _ inv.1 c.fetch_and-found.ensures.told.2 in (
      steps.post_sealed _ _ _ _ _ _ _ _ _ _ inv.0 c.fetch_and-found.ensures.told.0 inv.2 inv.3 is inv.4 inv.5 inv.6 inv.7 inv.8,
      homing.post_home g.H.Home _ _ _ c.fetch_and-found.ensures.more c.self.invariant.1,
    )

pub returns-clause-home : goal.returns-clause-home
returns-clause-home g c = ap (λ m. m.0) c.fetch_and-found.ensures.more ∙ ap (λ v. v.home) c.self.view_is

pub overflow_add-latch-2 : goal.overflow_add-latch-2
overflow_add-latch-2 g c =
    let inv = c.self.invariant.0 in
    let count : c.slot_count.result ≡ c.self.inside.seat.table.slots = c.slot_count.ensures ∙ ap (λ b. b.table.slots) c.deref.ensures ∙ ap (λ z. z.slots) inv.0 in
    let few : c.self.inside.seat.table.slots ≤ 407 = inv.8 in
    let near : c.self.inside.index < c.self.inside.seat.table.slots = is_slot _ _ inv.3 in
    omega arith
