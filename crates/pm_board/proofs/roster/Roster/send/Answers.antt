use Rattle.std.proofs.Common.{refl, sym, ap, ◌∙◌}
use Rattle.pm_board_words.specs.declared.views.RosterStep.TheVariants.{Send}
use Rattle.pm_board.specs.{Places.slot_at, Told.{roster_of, after_step}}
use Rattle.pm_board.proofs.Steps as steps
use Rattle.pm_board.proofs.Ties as ties
use Rattle.pm_board.proofs.Homing as homing
use Rattle.pm_board.proofs.roster.Roster.send.Goals as goal

pub fetch_or-requires : goal.fetch_or-requires
fetch_or-requires g c =
    let inv = c.self.invariant.0 in
    let first = ap (λ b. b.table) c.deref.ensures ∙ inv.0 in
    let t = ap (λ b. b.table) c.deref-2.ensures ∙ inv.0 in
    let e = ap (λ v. v.knows) c.self.view_is in
    let near = steps.in_table _ _ _ _ _ e inv.3 inv.2 t c.requires.0 in
    let here = (steps.in_table _ _ _ c.self.inside.seat.table c.self.inside.seat.table e inv.3 inv.2 refl c.requires.0).1 in
    let place = steps.latch_in _ _ _ _ _ (c.slot_count.ensures ∙ ap (λ z. z.slots) first) refl here inv.2 t in
    record {
      may = (sym t, place.0, steps.sends_as g.J.Letter _ _ _ _ _ _ _ c.requires.1.0 c.args.signal _ place.1 c.signal_bit.ensures inv.1 near.1 (ap (λ z. (slot_at z c.args.slot).sight) e ∙ c.requires.1.1));
      ties = ties.master_tied g.J.Letter g.H.Home c.deref-2.result.now c.self.inside.seat (roster_of c.self.inside.seat.me.0) _ (homing.desk _ _ _ inv.1) (λ found me told. (_, ap (λ m. m.0) (told c.args.slot c.requires.1.0 c.args.signal place.1 (ap (λ z. (slot_at z c.args.slot).sight) e ∙ c.requires.1.1) c.signal_bit.ensures), (λ _. refl)));
    }

pub invariant_of-self : goal.invariant_of-self
invariant_of-self g c =
    let inv = c.self.invariant.0 in
    let first = ap (λ b. b.table) c.deref.ensures ∙ inv.0 in
    let t = ap (λ b. b.table) c.deref-2.ensures ∙ inv.0 in
    let e = ap (λ v. v.knows) c.self.view_is in
    let here = (steps.in_table _ _ _ c.self.inside.seat.table c.self.inside.seat.table e inv.3 inv.2 refl c.requires.0).1 in
    let place = steps.latch_in _ _ _ _ _ (c.slot_count.ensures ∙ ap (λ z. z.slots) first) refl here inv.2 t in
    let did = c.fetch_or.ensures.told.2 c.args.slot c.requires.1.0 c.args.signal place.1 (ap (λ z. (slot_at z c.args.slot).sight) e ∙ c.requires.1.1) c.signal_bit.ensures in
    let is = steps.turned_as _ _ _ inv.1 did in (
      steps.sealed _ _ _ _ _ _ _ _ _ inv.0 c.fetch_or.ensures.told.0 inv.2 inv.4 is inv.3 inv.5 inv.6 inv.7 inv.8,
      homing.roster_home g.H.Home _ c.self.inside.seat.me c.fetch_or.new.seat.me _ _ _ (ap (λ m. m.0) is) refl c.fetch_or.ensures.more c.self.invariant.1,
    )

pub returns-clause-knows : goal.returns-clause-knows
returns-clause-knows g c o sight =
    let inv = c.self.invariant.0 in
    let first = ap (λ b. b.table) c.deref.ensures ∙ inv.0 in
    let t = ap (λ b. b.table) c.deref-2.ensures ∙ inv.0 in
    let e = ap (λ v. v.knows) c.self.view_is in
    let here = (steps.in_table _ _ _ c.self.inside.seat.table c.self.inside.seat.table e inv.3 inv.2 refl c.requires.0).1 in
    let place = steps.latch_in _ _ _ _ _ (c.slot_count.ensures ∙ ap (λ z. z.slots) first) refl here inv.2 t in
    let did = c.fetch_or.ensures.told.2 c.args.slot o c.args.signal place.1 (ap (λ z. (slot_at z c.args.slot).sight) e ∙ sight) c.signal_bit.ensures in
    ap (λ m. roster_of m.0) did ∙ ap (λ z. after_step z (Send c.args.slot o.pid o.kind c.args.signal o.generation)) e

pub returns-clause-home : goal.returns-clause-home
returns-clause-home g c = ap (λ m. m.0) c.fetch_or.ensures.more ∙ ap (λ v. v.home) c.self.view_is
