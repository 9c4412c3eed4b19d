use Rattle.std.proofs.Common.{refl, sym, ap, ◌∙◌, subst}
use Rattle.pm_board_words.specs.declared.views.RosterStep.TheVariants as roster_step
use Rattle.pm_board_words.specs.GateWords.{ready_step}
use Rattle.pm_board.specs.{Told.{roster_of, after_step}, Models.MayOpen}
use Rattle.pm_board.proofs.Steps as steps
use Rattle.pm_board.proofs.Ties as ties
use Rattle.pm_board.proofs.Homing as homing
use Rattle.pm_board.proofs.roster.Roster.ready.Goals as goal

pub fetch_add-requires : goal.fetch_add-requires
fetch_add-requires g c =
    let inv = c.self.invariant.0 in
    let e = ap (λ v. v.knows) c.self.view_is in
    let first = ap (λ b. b.table) c.deref.ensures ∙ inv.0 in
    let t = ap (λ b. b.table) c.deref-2.ensures ∙ inv.0 in
    let gate = steps.gate_in _ _ _ (c.slot_count-gate.ensures ∙ ap (λ z. z.slots) first) inv.2 t in
    let may = subst MayOpen (sym e) c.requires in
    record {
      may = (sym t, gate.0, steps.readies_as g.J.Letter _ _ _ _ _ _ _ gate.1 (c.ready_adds-adds.ensures ∙ ap ready_step inv.7) may inv.1);
      ties = ties.master_tied g.J.Letter g.H.Home c.deref-2.result.now c.self.inside.seat (roster_of c.self.inside.seat.me.0) _ (homing.desk _ _ _ inv.1) (λ found me told. (_, ap (λ m. m.0) told, (λ _. refl)));
    }

pub invariant_of-self : goal.invariant_of-self
invariant_of-self g c =
    let inv = c.self.invariant.0 in
    let e = ap (λ v. v.knows) c.self.view_is in
    let did = c.fetch_add.ensures.told.2 in
    let is = steps.turned_as _ _ _ inv.1 did in (
      steps.sealed _ _ _ _ _ _ _ _ _ inv.0 c.fetch_add.ensures.told.0 inv.2 inv.4 is inv.3 inv.5 inv.6 refl inv.8,
      homing.roster_home g.H.Home _ c.self.inside.seat.me c.fetch_add.new.seat.me _ _ _ (ap (λ m. m.0) is) refl c.fetch_add.ensures.more c.self.invariant.1,
    )

pub returns-clause-knows : goal.returns-clause-knows
returns-clause-knows g c =
    let inv = c.self.invariant.0 in
    let e = ap (λ v. v.knows) c.self.view_is in
    let did = c.fetch_add.ensures.told.2 in
    ap (λ m. roster_of m.0) did ∙ ap (λ z. after_step z (roster_step.Ready z.generation)) e

pub returns-clause-home : goal.returns-clause-home
returns-clause-home g c = ap (λ m. m.0) c.fetch_add.ensures.more ∙ ap (λ v. v.home) c.self.view_is
